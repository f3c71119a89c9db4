use Rattle.live.specs.Beyond.{Walked, by_column}
use Rattle.live.proofs.beyond.mark_comers.Given as goal

-- the classes of the list from e on are marked
abbrev pub invariant-loop-e : goal.invariant-loop-e
invariant-loop-e l = Walked l.t.classes (by_column l.t.rows.now l.t.width l.a) l.to l.e l.initial.marks l.initial.queue l.initial.last l.marks l.queue l.last

-- the numbers fall along a list
abbrev pub decreases-loop-e : goal.decreases-loop-e
decreases-loop-e l = l.e
