-- Bytes that begin with a ring claim about k sets.
use Rattle.std.specs.Prelude.{◌≡◌, ℕ, T, List, ◌++◌}
use Rattle.ring_claims.specs.Meaning.{RingClaim}
use Rattle.ring_claims.specs.Reading.{ring_ok}
use Rattle.ring_claims.specs.Bytes.{ring_bytes}

-- s begins with ring claim c about k sets, and t stands behind it
pub record RingFront (k : ℕ) (c : RingClaim) (s t : List ℕ) : Type 0 where
  pub bytes : ring_bytes c ++ t ≡ s
  pub fine : T (ring_ok k c)

-- s begins with no ring claim about k sets
abbrev pub NoRingFront : ℕ → List ℕ → Type 0
NoRingFront k s = (c : RingClaim) (t : List ℕ) → RingFront k c s t → ⊥
