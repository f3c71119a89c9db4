-- The first number of a sort.
use Rattle.std.specs.Prelude.{◌≡◌, ℕ, ◌<◌, Bool, not}

-- j is the first of the numbers below m at which f is b
pub record Foremost (f : ℕ → Bool) (m : ℕ) (b : Bool) (j : ℕ) : Type 0 where
  pub below : j < m
  pub here : f j ≡ b
  pub before : (i : ℕ) → i < j → f i ≡ not b

-- there is none
abbrev pub Nowhere : (ℕ → Bool) → ℕ → Bool → Type 0
Nowhere f m b = (j : ℕ) → j < m → f j ≡ not b
