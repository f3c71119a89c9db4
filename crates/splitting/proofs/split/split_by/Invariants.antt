use Rattle.std.proofs.Common.{◌≡◌, ◌≤◌, length}
use Rattle.tables.specs.Cells.{entry}
use Rattle.splitting.proofs.SplitLaws.{SplitTo}
use Rattle.splitting.proofs.split.split_by.Given as goal

-- the parts are split by the columns before a
abbrev pub invariant-loop-a : goal.invariant-loop-a
invariant-loop-a l = record {
  split : SplitTo l.lists.table.sets l.lists.table.table.classes (entry l.lists.table.table.rows.now l.lists.table.table.width) l.b l.a l.initial.parting.part.now l.parting.count l.places.order.now l.places.place.now l.parting.part.now l.parting.begin.now l.parting.end.now l.marks.cut.now;
  room : l.lists.table.table.classes ≤ length l.marks.touched.now;
  same_part : l.parting.part.ghost_name ≡ l.initial.parting.part.ghost_name;
}
