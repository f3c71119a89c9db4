-- A ring claim's bytes, and those of the row claim as which it is read.
use Rattle.std.specs.Prelude.{◌≡◌, ℕ, ◌+◌, ◌<◌, ◌≤◌, List, ◌++◌, length}
use Rattle.row_claims.specs.Bytes.{row_bytes}
use Rattle.ring_claims.specs.Meaning.{RingClaim}
use Rattle.ring_claims.specs.Reading.{in_ring}
use Rattle.ring_claims.specs.Bytes.{ring_bytes}

-- s begins with ring claim c, and t stands behind it; behind o the row claim was put
pub record Puts (c : RingClaim) (o o' s t : List ℕ) : Type 0 where
  pub read : ring_bytes c ++ t ≡ s
  pub put : o' ≡ o ++ row_bytes (in_ring c)
  pub few : length o' ≤ 1024

-- whatever ring claim s begins with, behind n bytes there is no room for the row claim
abbrev pub Overlong : ℕ → List ℕ → Type 0
Overlong n s = (c : RingClaim) (t : List ℕ) → ring_bytes c ++ t ≡ s → 1024 < n + length (row_bytes (in_ring c))
