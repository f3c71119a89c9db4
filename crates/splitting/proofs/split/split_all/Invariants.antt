use Rattle.std.proofs.Common.{◌≡◌, ◌-◌, ◌≤◌, length}
use Rattle.tables.specs.Cells.{entry, accepts}
use Rattle.splitting.specs.Split.{Waiting}
use Rattle.splitting.proofs.split.split_all.Given as goal

-- the parts from `done` on wait
abbrev pub invariant-loop-done : goal.invariant-loop-done
invariant-loop-done l = record {
  waiting : Waiting l.lists.table.sets l.lists.table.table.classes (entry l.lists.table.table.rows.now l.lists.table.table.width) (accepts l.lists.table.table.accept.now) l.parting.count l.done l.places.order.now l.places.place.now l.parting.part.now l.parting.begin.now l.parting.end.now l.marks.cut.now;
  room : l.lists.table.table.classes ≤ length l.marks.touched.now;
  same_part : l.parting.part.ghost_name ≡ l.initial.parting.part.ghost_name;
}

-- there are no more parts than classes
abbrev pub decreases-loop-done : goal.decreases-loop-done
decreases-loop-done l = l.lists.table.table.classes - l.done
