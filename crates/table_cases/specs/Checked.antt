-- Words that are a table, as is tested while the program runs.
use Rattle.std.specs.Prelude.{ℕ, ◌*◌, ◌^◌, ◌<◌, ◌≤◌, List, length}
use Rattle.tables.specs.Cells.{entry}

-- the words have room for so many classes over the columns of k sets, and every entry is the number
-- of a class
pub record Written (rows accept : List ℕ) (classes k : ℕ) : Type 0 where
  pub narrow : k ≤ 12
  pub some : 0 < classes
  pub few : classes < 2 ^ 32
  pub rows_fit : classes * 2 ^ k ≤ length rows
  pub accept_fits : classes ≤ length accept
  pub below : (q a : ℕ) → q < classes → a < 2 ^ k → entry rows (2 ^ k) q a < classes
