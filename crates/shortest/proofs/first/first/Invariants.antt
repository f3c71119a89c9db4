use Rattle.tables.specs.Cells.{accepts}
use Rattle.shortest.specs.First.{Nowhere}
use Rattle.shortest.proofs.first.first.Given as goal

-- no class before q is of the sort
abbrev pub invariant-loop-q : goal.invariant-loop-q
invariant-loop-q l = Nowhere (accepts l.t.accept.now) l.q l.wanted
