-- Rows of modules one after the other in time.
use Rattle.std.specs.Prelude.{◌≡◌, ℕ, ◌-◌, List, length, slice_get, All, Some, Vec, vec_len}
use Rattle.std.specs.Global.{Global}

-- each row has so many modules
abbrev pub AllOf : ℕ → List (Vec ℕ Global) → Type 0
AllOf modules rows = All (λ row. vec_len row ≡ modules) rows

-- the columns of the last row
pub record IsLastRow (rows : List (Vec ℕ Global)) (columns : List ℕ) : Type 0 where
  pub row : Vec ℕ Global
  pub is_last : slice_get rows (length rows - 1) ≡ Some row
  pub its_columns : columns ≡ row.items
