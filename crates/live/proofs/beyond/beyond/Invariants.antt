use Rattle.std.proofs.Common.{◌-◌}
use Rattle.tables.specs.Cells.{entry, accepts}
use Rattle.live.specs.Beyond.{Marking}
use Rattle.live.proofs.beyond.beyond.Given as goal

-- the queue is done before place i
abbrev pub invariant-loop-i : goal.invariant-loop-i
invariant-loop-i l = Marking l.fn.x.0 l.t.table.classes (entry l.t.table.rows.now l.t.table.width) (accepts l.t.table.accept.now) l.completed l.queue l.tail l.i

-- each class is queued at most once
abbrev pub decreases-loop-i : goal.decreases-loop-i
decreases-loop-i l = l.t.table.classes - l.i
