-- Row claims as bytes: those of claims, and one more sign, 8, for last.
use Rattle.std.specs.Prelude.{◌≡◌, ℕ, ◌&&◌, T, List, [], ◌∷◌, ◌++◌, length, nat_le}
use Rattle.kinds.specs.Atoms.{row_of}
use Rattle.row_claims.specs.Meaning.{RowClaim, atom, last, not1, and1, some}
use Rattle.row_claims.specs.Reading.{row_ok}

abbrev pub row_bytes : RowClaim → List ℕ
row_bytes (atom a) = row_of a
row_bytes (last x) = 8 ∷ x ∷ []
row_bytes (not1 c) = 4 ∷ row_bytes c
row_bytes (and1 c d) = 5 ∷ (row_bytes c ++ row_bytes d)
row_bytes (some x c) = 6 ∷ x ∷ row_bytes c

-- the bytes s say row claim c about k sets, 1 to 12, in at most 1,024 bytes; of 12 there is one too many for the row to have a set of its own
pub record SaysRow (s : List ℕ) (k : ℕ) (c : RowClaim) : Type 0 where
  pub bytes : k ∷ row_bytes c ≡ s
  pub fine : T (nat_le 1 k && (nat_le k 12 && (nat_le (length s) 1024 && row_ok k c)))

abbrev pub IsRowClaim : List ℕ → Type 0
IsRowClaim s = (k : ℕ) × (c : RowClaim) × SaysRow s k c
