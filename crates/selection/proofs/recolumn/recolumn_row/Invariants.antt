use Rattle.selection.specs.Recolumn.{Remapped}
use Rattle.selection.proofs.recolumn.recolumn_row.Given as goal

-- the columns before j are written
abbrev pub invariant-loop-j : goal.invariant-loop-j
invariant-loop-j l = Remapped l.t l.map l.q l.j l.initial.sheet l.sheet
