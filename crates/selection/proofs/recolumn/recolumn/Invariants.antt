use Rattle.selection.proofs.RecolumnLaws.{Written}
use Rattle.selection.proofs.recolumn.recolumn.Given as goal

-- the rows before q are written
abbrev pub invariant-loop-q : goal.invariant-loop-q
invariant-loop-q l = Written l.t l.fn.from l.fn.to l.q l.initial.sheet l.sheet
