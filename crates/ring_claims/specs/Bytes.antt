-- Ring claims as bytes: those of row claims, without the signs 3 of before and 8 of last.
use Rattle.std.specs.Prelude.{◌≡◌, ℕ, ◌&&◌, T, List, ◌∷◌, ◌++◌, length, nat_le}
use Rattle.kinds.specs.Atoms.{row_of}
use Rattle.ring_claims.specs.Meaning.{RingClaim, atom, not1, and1, some, atom_of}
use Rattle.ring_claims.specs.Reading.{ring_ok}

abbrev pub ring_bytes : RingClaim → List ℕ
ring_bytes (atom a) = row_of (atom_of a)
ring_bytes (not1 c) = 4 ∷ ring_bytes c
ring_bytes (and1 c d) = 5 ∷ (ring_bytes c ++ ring_bytes d)
ring_bytes (some x c) = 6 ∷ x ∷ ring_bytes c

-- the bytes s say ring claim c about k sets, 1 to 12, in at most 1,024 bytes
pub record SaysRing (s : List ℕ) (k : ℕ) (c : RingClaim) : Type 0 where
  pub bytes : k ∷ ring_bytes c ≡ s
  pub fine : T (nat_le 1 k && (nat_le k 12 && (nat_le (length s) 1024 && ring_ok k c)))

abbrev pub IsRingClaim : List ℕ → Type 0
IsRingClaim s = (k : ℕ) × (c : RingClaim) × SaysRing s k c
