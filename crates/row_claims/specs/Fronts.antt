-- Bytes that begin with a row claim about k sets.
use Rattle.std.specs.Prelude.{◌≡◌, ℕ, ◌≤◌, T, List, ◌∷◌, ◌++◌, length}
use Rattle.row_claims.specs.Meaning.{RowClaim}
use Rattle.row_claims.specs.Reading.{row_ok}
use Rattle.row_claims.specs.Bytes.{row_bytes}

-- s begins with row claim c about k sets, and t stands behind it
pub record RowFront (k : ℕ) (c : RowClaim) (s t : List ℕ) : Type 0 where
  pub rows : row_bytes c ++ t ≡ s
  pub fine : T (row_ok k c)

-- s begins with no row claim about k sets
abbrev pub NoRowFront : ℕ → List ℕ → Type 0
NoRowFront k s = (c : RowClaim) (t : List ℕ) → RowFront k c s t → ⊥

-- s is a number of sets that a row claim can be about, and r behind it, no longer than row claims are
pub record Opens (s : List ℕ) (k : ℕ) (r : List ℕ) : Type 0 where
  pub bytes : k ∷ r ≡ s
  pub low : 1 ≤ k
  pub high : k ≤ 12
  pub size : length s ≤ 1024
