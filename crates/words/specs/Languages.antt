-- Languages of words, and the classes into which a relation parts the words.
use Rattle.std.specs.Prelude.{◌≡◌, ℕ, zero, suc, ◌↔◌, List, [], ◌∷◌, ◌++◌}
use Rattle.std.proofs.Math.Option.{Option, some, none}
use Rattle.words.specs.Words.{Word, Columns}

abbrev pub Lang : Type 1
Lang = Word → Type 0

-- two words leave the same of a language: whatever is put behind both, both are in it or neither is
abbrev pub SameLeft : ℕ → Lang → Word → Word → Type 0
SameLeft k L u v = (x : Word) → Columns k x → L (u ++ x) ↔ L (v ++ x)

-- what stands at a place of a list
abbrev pub nth : {A : Type 0} → List A → ℕ → Option A
nth [] n = none
nth (x ∷ xs) zero = some x
nth (x ∷ xs) (suc n) = nth xs n

-- E parts the words of k sets into classes, one word listed for each
pub record Classes (k : ℕ) (E : Word → Word → Type 0) (ws : List Word) : Type 0 where
  pub columns : (i : ℕ) (u : Word) → nth ws i ≡ some u → Columns k u
  pub differ : (i j : ℕ) (u v : Word) → nth ws i ≡ some u → nth ws j ≡ some v → E u v → i ≡ j
  pub all : (w : Word) → Columns k w → (i : ℕ) × (u : Word) × (nth ws i ≡ some u) × E u w
