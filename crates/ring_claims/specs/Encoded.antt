-- What is made of a ring claim: its bytes, about at least so many sets, or the refusal that applies.
use Rattle.std.specs.Prelude.{◌≡◌, ℕ, suc, ◌-◌, ◌^◌, ◌<◌, min, max, length}
use Rattle.ring_claims.specs.Meaning.{RingClaim}
use Rattle.ring_claims.specs.Bytes.{ring_bytes}
use Rattle.ring_claims.specs.Trees.{sets_of}
use Rattle.ring_claims.specs.declared.encode.Refusal.{Refusal}
use Rattle.ring_claims.specs.declared.encode.Refusal.TheVariants.{TooManyBytes, TooManySets, OutOfMemory}

-- how many sets are needed for a ring claim about at least so many: one at least
abbrev pub sets_needed : ℕ → RingClaim → ℕ
sets_needed least c = max 1 (max least (sets_of c))

-- and how many bytes, with the one that says how many sets
abbrev pub bytes_needed : RingClaim → ℕ
bytes_needed c = suc (length (ring_bytes c))

-- what a refusal says is so; a number beyond usize stops at the largest
abbrev pub Refused : ℕ → RingClaim → Refusal → Type 0
Refused least c (TooManySets n) = (12 < sets_needed least c) × (n ≡ min (sets_needed least c) (2 ^ 64 - 1))
Refused least c (TooManyBytes n) = (1024 < bytes_needed c) × (n ≡ min (bytes_needed c) (2 ^ 64 - 1))
Refused least c OutOfMemory = Unit {0}
