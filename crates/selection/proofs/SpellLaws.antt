-- A word that is written column by column.
use Rattle.std.proofs.Common.{◌≡◌, ℕ, zero, suc, ◌<◌, [], ◌∷◌, ◌++◌, length, get_or, set, take, drop, ap, refl, arith}
use Rattle.words.specs.Words.{Word}
use Rattle.narrowing.specs.Columns.{each}

-- the first i columns of w are written
abbrev pub upto : (ℕ → ℕ) → ℕ → Word → Word
upto f i w = each f (take i w) ++ drop i w

-- and one more
pub each_more : (f : ℕ → ℕ) (i : ℕ) (w : Word) → i < length w → set (upto f i w) i (f (get_or (upto f i w) i 0)) ≡ upto f (suc i) w
each_more f i [] h = let z : ⊥ = omega arith in absurd z
each_more f zero (a ∷ w) h = refl
each_more f (suc i) (a ∷ w) h = ap (λ z. f a ∷ z) (each_more f i w (omega arith))
