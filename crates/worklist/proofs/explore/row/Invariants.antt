use Rattle.worklist.specs.Search.{Extended}
use Rattle.worklist.proofs.explore.row.Given as goal

-- the columns before a are done
abbrev pub invariant-loop-a : goal.invariant-loop-a
invariant-loop-a g l = Extended (g.F.Frontier.seen l.initial.f) (g.F.Frontier.seen l.f) l.initial.t l.t l.m l.n l.i l.a
