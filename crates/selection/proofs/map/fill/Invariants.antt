use Rattle.selection.proofs.MapLaws.{Filled}
use Rattle.selection.proofs.map.fill.Given as goal

-- the columns without a set from x on are mapped
abbrev pub invariant-loop-x : goal.invariant-loop-x
invariant-loop-x l = Filled l.fn.from l.fn.to l.x l.n l.map
