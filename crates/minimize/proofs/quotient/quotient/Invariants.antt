use Rattle.minimize.specs.Quotient.{Quotient}
use Rattle.minimize.proofs.quotient.quotient.Given as goal

-- the parts before i are written
abbrev pub invariant-loop-i : goal.invariant-loop-i
invariant-loop-i l = Quotient l.t l.cls l.firsts l.i l.rows l.accept
