-- The order of words: shorter words first, words of one length by the first column that differs.
use Rattle.std.specs.Prelude.{◌≡◌, ℕ, ◌<◌, ◌⊎◌, ◌∷◌, length}
use Rattle.words.specs.Words.{Word}

pub data Less : Word → Word → Type 0 where
  at_once : {x y : ℕ} {u v : Word} → x < y → length u ≡ length v → Less (x ∷ u) (y ∷ v)
  later : {x : ℕ} {u v : Word} → Less u v → length u ≡ length v → Less (x ∷ u) (x ∷ v)
  shorter : {u v : Word} → length u < length v → Less u v

-- not later than
abbrev pub Leq : Word → Word → Type 0
Leq u v = (u ≡ v) ⊎ Less u v

-- a strict order in which any two words that differ are comparable
pub record Ordered : Type 0 where
  pub irreflexive : (u : Word) → Less u u → ⊥
  pub transitive : (u v w : Word) → Less u v → Less v w → Less u w
  pub total : (u v : Word) → Less u v ⊎ ((u ≡ v) ⊎ Less v u)
