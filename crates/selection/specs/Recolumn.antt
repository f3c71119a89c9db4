-- A table over the columns of other sets.
use Rattle.std.specs.Prelude.{◌≡◌, ◌≢◌, ℕ, ◌<◌, List, slice_index}
use Rattle.selection.specs.Selections.{narrow, spread}
use Rattle.selection.specs.declared.selection.Selection.{Selection}
use Rattle.tables.specs.Cells.{entry, accepts}
use Rattle.tables.specs.View.{moves, accepting}
use Rattle.tables.specs.declared.cells.Table.{Table}
use Rattle.tables.specs.declared.cells.WordTable.{WordTable}
use Rattle.tables.specs.declared.sheet.Sheet.{Sheet}

-- the sheet was s and is u: a table of as many classes as t stands on it, over the columns of the
-- sets of `to`; each of these leads where t's column of the sets of `from` does
pub record Recolumned (t : WordTable) (from to : Selection) (s u : Sheet) : Type 0 where
  pub leads : (q j : ℕ) → q < t.table.classes → j < s.shape.width → entry u.rows.now s.shape.width q j ≡ moves t.table q (narrow from (spread to j))
  pub ends : (q : ℕ) → q < t.table.classes → accepts u.accept.now q ≡ accepting t.table q
  pub shape : u.shape ≡ s.shape
  pub rows : u.rows.ghost_name ≡ s.rows.ghost_name
  pub accept : u.accept.ghost_name ≡ s.accept.ghost_name

-- the sheet was s and is u: the columns before j of row q lead where the columns on the map do;
-- the other rows, and which classes accept, are as they were
pub record Remapped (t : Table) (map : List ℕ) (q j : ℕ) (s u : Sheet) : Type 0 where
  pub leads : (i : ℕ) → i < j → entry u.rows.now s.shape.width q i ≡ moves t q (slice_index map i)
  pub others : (p i : ℕ) → p ≢ q → i < s.shape.width → entry u.rows.now s.shape.width p i ≡ entry s.rows.now s.shape.width p i
  pub marks : u.accept.now ≡ s.accept.now
  pub shape : u.shape ≡ s.shape
  pub rows : u.rows.ghost_name ≡ s.rows.ghost_name
  pub accept : u.accept.ghost_name ≡ s.accept.ghost_name
