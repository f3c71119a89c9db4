-- What is read of the text of a tree's words.
use Rattle.std.proofs.Common.{◌≡◌, ◌⊎◌, inl, inr, ℕ, Bool, List, map, Ok, Some, None, Option, Result, sym, ap, subst, ◌∙◌}
use Rattle.tokens.specs.declared.token.NoToken.{NoToken}
use Rattle.tokens.specs.declared.token.NoToken.TheVariants as no_token
use Rattle.tokens.specs.Words.{Word}
use Rattle.tokens.specs.Scan.{scan}
use Rattle.tokens.specs.Spaced.{spaced, AreAlone, NamesAlone}
use Rattle.tokens.proofs.SpacedLaws.{scan_spaced}
use Rattle.syntax.specs.declared.fault.Fault.{Fault}
use Rattle.syntax.specs.declared.fault.Fault.TheVariants.{Memory}
use Rattle.syntax.specs.Parsing.{Stop}
use Rattle.syntax.specs.Views.{fault_of, Fails, Gives}
use Rattle.syntax.specs.Items.{PlainItem, written_items}
use Rattle.syntax.specs.Printed.{text_item, AreTreeItems}
use Rattle.syntax.proofs.AloneLaws.{items_alone}

same_some : {A : Type 0} (a b : A) → Some a ≡ Some b → a ≡ b
same_some a b e = cc

not_none : {A : Type 0} (a : A) (o : Option A) → o ≡ None → o ≡ Some a → ⊥
not_none a o e f = cc

-- its tokens are these words
text_words : (text : List ℕ) (ws : List Word) → AreAlone ws → text ≡ spaced ws → scan text ≡ Some ws
text_words text ws a e = ap scan e ∙ scan_spaced ws a

pub read_text : {X : Type 0} (see : X → List PlainItem) (r : Result X Fault) (text : List ℕ) (us : List Word) (all : Bool) (is : List PlainItem) → AreTreeItems is → NamesAlone (written_items (map (text_item all) is)) → text ≡ spaced (written_items (map (text_item all) is)) → scan text ≡ Some us → ((b : Bool) (js : List PlainItem) → AreTreeItems js → us ≡ written_items (map (text_item b) js) → Gives see r (Ok js)) → Gives see r (Ok is)
read_text see r text us all is x n e s h =
    let ws = written_items (map (text_item all) is) in
    h all is x (same_some us ws (sym s ∙ text_words text ws (items_alone is all x n) e))

fails_memory : {Y : Type 0} (f : Fault) (read : Result Y Stop) → f ≡ Memory → Fails f read
fails_memory f read e = subst (λ (g : Fault). Fails g read) (sym e) tt

-- of such a text only memory fails
pub fails_text : (f : Fault) (n : NoToken) (text : List ℕ) (all : Bool) (is : List PlainItem) → f ≡ fault_of n → (n ≡ no_token.Memory) ⊎ (scan text ≡ None) → AreTreeItems is → NamesAlone (written_items (map (text_item all) is)) → text ≡ spaced (written_items (map (text_item all) is)) → Fails f (Ok is)
fails_text f n text all is e (inl m) x h t = fails_memory f (Ok is) (e ∙ ap fault_of m)
fails_text f n text all is e (inr s) x h t = absurd (not_none _ (scan text) s (text_words text (written_items (map (text_item all) is)) (items_alone is all x h) t))
