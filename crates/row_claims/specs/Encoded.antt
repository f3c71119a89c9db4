-- What is made of a row claim: its bytes, about at least so many sets, or the refusal that applies.
use Rattle.std.specs.Prelude.{◌≡◌, ℕ, suc, ◌-◌, ◌^◌, ◌<◌, min, max, length}
use Rattle.row_claims.specs.Meaning.{RowClaim}
use Rattle.row_claims.specs.Bytes.{row_bytes}
use Rattle.row_claims.specs.Trees.{sets_of}
use Rattle.row_claims.specs.declared.encode.Refusal.{Refusal}
use Rattle.row_claims.specs.declared.encode.Refusal.TheVariants.{TooManyBytes, TooManySets, OutOfMemory}

-- how many sets are needed for a row claim about at least so many: one at least
abbrev pub sets_needed : ℕ → RowClaim → ℕ
sets_needed least c = max 1 (max least (sets_of c))

-- and how many bytes, with the one that says how many sets
abbrev pub bytes_needed : RowClaim → ℕ
bytes_needed c = suc (length (row_bytes c))

-- what a refusal says is so; a number beyond usize stops at the largest
abbrev pub Refused : ℕ → RowClaim → Refusal → Type 0
Refused least c (TooManySets n) = (12 < sets_needed least c) × (n ≡ min (sets_needed least c) (2 ^ 64 - 1))
Refused least c (TooManyBytes n) = (1024 < bytes_needed c) × (n ≡ min (bytes_needed c) (2 ^ 64 - 1))
Refused least c OutOfMemory = Unit {0}
