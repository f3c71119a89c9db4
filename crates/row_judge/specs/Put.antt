-- A row claim's bytes, and those of the claim where a set is the row.
use Rattle.std.specs.Prelude.{◌≡◌, ℕ, ◌+◌, ◌<◌, ◌≤◌, List, ◌++◌, length}
use Rattle.claims.specs.Rows.{row}
use Rattle.row_claims.specs.Meaning.{RowClaim}
use Rattle.row_claims.specs.Reading.{in_row}
use Rattle.row_claims.specs.Bytes.{row_bytes}

-- s begins with row claim c, and t stands behind it; behind o the claim was put where set r is the row
pub record Puts (r : ℕ) (c : RowClaim) (o o' s t : List ℕ) : Type 0 where
  pub read : row_bytes c ++ t ≡ s
  pub put : o' ≡ o ++ row (in_row r c)
  pub few : length o' ≤ 1024

-- whatever row claim s begins with, behind n bytes there is no room for it
abbrev pub Overlong : ℕ → ℕ → List ℕ → Type 0
Overlong r n s = (c : RowClaim) (t : List ℕ) → row_bytes c ++ t ≡ s → 1024 < n + length (row (in_row r c))
