-- The table of a part, read from the sheet on which it stands: what it says of the part's claim, as
-- the table over all columns for which it stands.
use Rattle.std.proofs.Common.{ℕ}
use Rattle.claims.specs.Claims.{C, Of}
use Rattle.automata.specs.Search.{Ordered}
use Rattle.automata.specs.Tables.{Table}
use Rattle.narrowing.specs.Wide.{wide}
use Rattle.selection.specs.Selections.{chosen}
use Rattle.tables.specs.View.{moves, accepting}
use Rattle.tables.specs.declared.cells.WordTable.{WordTable}
use Rattle.tables.specs.declared.sheet.Sheet.{Sheet}
use Rattle.construct.proofs.StandsLaws.{stands_ordered, stands_table}
use Rattle.construct.specs.Stands.{Meets, Reads, Stands}
use Rattle.construct.specs.declared.part.Part.{Part}
use Rattle.construct.specs.declared.wanted.Wanted.{Wanted}

module _ (wanted : Wanted) (k : ℕ) (s : Sheet) (c : C) (p : Part) (x : Stands wanted k s c p) (t : WordTable) (r : Reads s p t) where
  pub part_table : Table p.sets.of (Of c) t.table.classes (wide p.sets.of (chosen p.sets) (moves t.table)) (accepting t.table)
  part_table = rw (r.classes, t.wide, r.sets, r.rows, r.accept) (stands_table wanted k s c p x)

  pub part_ordered : Ordered p.sets.of t.table.classes (wide p.sets.of (chosen p.sets) (moves t.table))
  part_ordered = rw (r.classes, t.wide, r.sets, r.rows) (stands_ordered wanted k s c p x)

  pub part_meets : Meets wanted p.sets.of s.shape.most c t.table.classes (wide p.sets.of (chosen p.sets) (moves t.table)) (accepting t.table)
  part_meets = rw (r.classes, t.wide, r.sets, r.rows, r.accept) x.meets
