-- What the loops over parameters and over items keep.
use Rattle.std.proofs.Common.{ℕ, zero, suc, ◌<◌, ◌≤◌, ◌≡◌, List, [], ◌∷◌, ◌++◌, true, false, Ok, Err, refl, sym, arith, length}
use Rattle.std.proofs.lemmas.List.{map_push}
use Rattle.trees.specs.declared.tree.Sort.{Sort}
use Rattle.trees.specs.declared.tree.Parameter.{Parameter}
use Rattle.trees.specs.declared.tree.Item.{Item}
use Rattle.tokens.specs.declared.token.Token.{Token}
use Rattle.tokens.specs.declared.kind.Kind.TheVariants as kind
use Rattle.tokens.specs.Words.{Word, words}
use Rattle.syntax.specs.Parsing.{Stop, Reader, begins, tail, name, parse}
use Rattle.syntax.specs.Items.{PlainItem, view_parameter, view_parameters, view_item, view_items, sort_of, given, behind_sort, more_parameters, item_at, header, more_read, read_words}

pub parameters_push : (ps : List Parameter) (p : Parameter) → view_parameters (ps ++ p ∷ []) ≡ view_parameters ps ++ view_parameter p ∷ []
parameters_push ps p = map_push view_parameter ps p

pub items_push : (is : List Item) (i : Item) → view_items (is ++ i ∷ []) ≡ view_items is ++ view_item i ∷ []
items_push is i = map_push view_item is i

pub next_parameter : (k : ℕ) (s r : Sort) (acc longer : List (Sort × List ℕ)) (ws behind at rest : List Word) (x : List ℕ) → 0 < k → begins kind.Comma ws ≡ true → behind ≡ tail ws → r ≡ given s (sort_of behind) → at ≡ behind_sort (sort_of behind) behind → name at ≡ Ok (x, rest) → longer ≡ acc ++ (r, x) ∷ [] → (j : ℕ) × (k ≡ suc j) × (more_parameters k s acc ws ≡ more_parameters j r longer rest)
next_parameter zero s r acc longer ws behind at rest x lt b bt g a e l = absurd (omega (arith, lt))
next_parameter (suc k) s r acc longer ws behind at rest x lt b bt g a e l = (k, refl, rw b (rw (sym bt) (rw (sym a) (rw e (rw (sym g) (rw l refl))))))

pub parameter_fails : (k : ℕ) (s : Sort) (acc : List (Sort × List ℕ)) (ws behind at : List Word) (e : Stop) → 0 < k → begins kind.Comma ws ≡ true → behind ≡ tail ws → at ≡ behind_sort (sort_of behind) behind → name at ≡ Err e → more_parameters k s acc ws ≡ Err e
parameter_fails zero s acc ws behind at e lt b bt a h = absurd (omega (arith, lt))
parameter_fails (suc k) s acc ws behind at e lt b bt a h = rw b (rw (sym bt) (rw (sym a) (rw h refl)))

pub no_parameter : (k : ℕ) (s : Sort) (acc : List (Sort × List ℕ)) (ws : List Word) → begins kind.Comma ws ≡ false → more_parameters k s acc ws ≡ Ok (acc, ws)
no_parameter zero s acc ws b = refl
no_parameter (suc k) s acc ws b = rw b refl

pub first_read : (n c : ℕ) (ws rest : List Word) (is : List PlainItem) → header ws ≡ Ok rest → is ≡ [] → read_words n c ws ≡ more_read (parse n c) n n is rest
first_read n c ws rest is h e = rw h (rw e refl)

pub next_read : (p : Reader) (n k : ℕ) (is longer : List PlainItem) (text : List ℕ) (ts : List Token) (rest : List Word) (i : PlainItem) → length ts ≤ k → 0 < length ts → item_at p n (words text ts) ≡ Ok (i, rest) → longer ≡ is ++ i ∷ [] → (j : ℕ) × (k ≡ suc j) × (more_read p n k is (words text ts) ≡ more_read p n j longer rest)
next_read p n k is longer text [] rest i le lt e l = absurd (omega (arith, lt))
next_read p n zero is longer text (t ∷ ts) rest i le lt e l = absurd (omega (arith, le))
next_read p n (suc k) is longer text (t ∷ ts) rest i le lt e l = (k, refl, rw e (rw l refl))

pub read_fails : (p : Reader) (n k : ℕ) (is : List PlainItem) (text : List ℕ) (ts : List Token) (s : Stop) → length ts ≤ k → 0 < length ts → item_at p n (words text ts) ≡ Err s → more_read p n k is (words text ts) ≡ Err s
read_fails p n k is text [] s le lt e = absurd (omega (arith, lt))
read_fails p n zero is text (t ∷ ts) s le lt e = absurd (omega (arith, le))
read_fails p n (suc k) is text (t ∷ ts) s le lt e = rw e refl

pub all_read : (p : Reader) (n k : ℕ) (is : List PlainItem) (text : List ℕ) (ts : List Token) → length ts < 1 → more_read p n k is (words text ts) ≡ Ok is
all_read p n k is text [] lt = refl
all_read p n k is text (t ∷ ts) lt = absurd (omega (arith, lt))
