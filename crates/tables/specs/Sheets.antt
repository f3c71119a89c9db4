-- The first classes of a sheet, read as a table.
use Rattle.std.specs.Prelude.{◌≡◌, ℕ}
use Rattle.tables.specs.declared.cells.WordTable.{WordTable}
use Rattle.tables.specs.declared.sheet.Sheet.{Sheet}

-- t is what stands on sheet s, of m classes
pub record Shows (s : Sheet) (m : ℕ) (t : WordTable) : Type 0 where
  pub classes : t.table.classes ≡ m
  pub sets : t.sets ≡ s.shape.sets
  pub width : t.table.width ≡ s.shape.width
  pub rows : t.table.rows.now ≡ s.rows.now
  pub accept : t.table.accept.now ≡ s.accept.now
