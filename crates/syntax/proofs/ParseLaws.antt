-- What a call gave, said of what is equal to it.
use Rattle.std.proofs.Common.{◌≡◌, ℕ, Bool, List, [], ◌∷◌, Ok, Err, Result, IfOk, refl, sym, subst, ap, arith, length, map, ◌∙◌, ◌≤◌}
use Rattle.syntax.specs.declared.fault.Fault.{Fault}
use Rattle.tokens.specs.declared.token.Token.{Token}
use Rattle.tokens.specs.Words.{Word, words}
use Rattle.syntax.specs.Parsing.{Stop}
use Rattle.syntax.specs.Views.{Gives}
use Rattle.syntax.specs.Items.{PlainItem, read_words, written_items, bare_item, AreItems}
use Rattle.syntax.specs.Printed.{text_item, AreTreeItems}
use Rattle.syntax.proofs.ItemsAgain.{items_again}
use Rattle.syntax.proofs.PrintedLaws.{items_are, bare_items_text}

pub gives_same : {X Y : Type 0} (see : X → Y) (r : Result X Fault) (y z : Result Y Stop) → y ≡ z → Gives see r y → Gives see r z
gives_same see r y z e g = subst (λ (w : Result _ Stop). Gives see r w) e g

pub words_length : (text : List ℕ) (ts : List Token) → length (words text ts) ≡ length ts
words_length text [] = refl
words_length text (t ∷ ts) = let h = words_length text ts in omega (arith, h)

-- the number of expressions that may be open, under another name
pub at_most : {X : Type 0} (see : X → List PlainItem) (r : Result X Fault) (n most c : ℕ) (ws : List Word) → most ≡ 2000 → c ≡ 2000 → Gives see r (read_words n most ws) → Gives see r (read_words n c ws)
at_most see r n most c ws e d g = gives_same see r (read_words n most ws) (read_words n c ws) (ap (λ m. read_words n m ws) (e ∙ sym d)) g

-- words that are written items are read as these
pub read_written : {X : Type 0} (see : X → List PlainItem) (r : Result X Fault) (n most : ℕ) (text : List ℕ) (ts : List Token) (is : List PlainItem) → most ≡ 2000 → length ts ≤ n → AreItems is → words text ts ≡ written_items is → Gives see r (read_words n most (words text ts)) → Gives see r (Ok (map bare_item is))
read_written see r n most text ts is e le x w g =
    let l = words_length text ts in
    let m = ap length w in
    gives_same see r (read_words n most (words text ts)) (Ok (map bare_item is))
    (ap (read_words n most) w ∙ items_again is n most x e (omega (arith, le, l, m))) g

-- what an answer is, where there is one
pub found : {X Y : Type 0} (see : X → Y) (r : Result X Fault) (f : ℕ → Result Y Stop) → ((c : ℕ) → c ≡ 2000 → Gives see r (f c)) → IfOk r (λ v. (c : ℕ) → c ≡ 2000 → f c ≡ Ok (see v))
found see (Ok v) f h = h
found see (Err e) f h = tt

-- the tokens that were read
pub found_tokens : {X : Type 0} (see : X → List PlainItem) (r : Result X Fault) (text : List ℕ) (A : List Token → Type 0) (ts all : List Token) → A all → ts ≡ all → ((c : ℕ) → c ≡ 2000 → Gives see r (read_words (length ts) c (words text ts))) → IfOk r (λ v. (xs : List Token) × A xs × ((c : ℕ) → c ≡ 2000 → read_words (length xs) c (words text xs) ≡ Ok (see v)))
found_tokens see (Ok v) text A ts all a e h = (all, a, subst (λ (ys : List Token). (c : ℕ) → c ≡ 2000 → read_words (length ys) c (words text ys) ≡ Ok (see v)) e h)
found_tokens see (Err f) text A ts all a e h = tt

-- the words of a text of items are read as these
pub read_printed : {X : Type 0} (see : X → List PlainItem) (r : Result X Fault) (n most : ℕ) (text : List ℕ) (ts : List Token) (all : Bool) (is : List PlainItem) → most ≡ 2000 → length ts ≤ n → AreTreeItems is → words text ts ≡ written_items (map (text_item all) is) → Gives see r (read_words n most (words text ts)) → Gives see r (Ok is)
read_printed see r n most text ts all is e le x w g =
    gives_same see r (Ok (map bare_item (map (text_item all) is))) (Ok is) (ap Ok (bare_items_text is all x)) (read_written see r n most text ts (map (text_item all) is) e le (items_are is all x) w g)
