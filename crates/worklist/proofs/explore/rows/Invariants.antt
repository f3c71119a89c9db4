use Rattle.std.proofs.Common.{◌-◌, ◌≤◌}
use Rattle.worklist.specs.Search.{Advanced}
use Rattle.worklist.proofs.explore.rows.Given as goal

-- the rows before i are done
abbrev pub invariant-loop-i : goal.invariant-loop-i
invariant-loop-i g l = (l.i ≤ l.n) × Advanced (g.F.Frontier.seen l.fn.f) (g.F.Frontier.seen l.f) l.fn.t l.t 1 l.n l.i 0

abbrev pub decreases-loop-i : goal.decreases-loop-i
decreases-loop-i g l = l.fn.t.shape.most - l.i
