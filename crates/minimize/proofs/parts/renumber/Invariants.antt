use Rattle.std.proofs.Common.{get_or}
use Rattle.tables.specs.Cells.{entry}
use Rattle.minimize.proofs.NumberingLaws.{Numbering}
use Rattle.minimize.proofs.parts.renumber.Given as goal

-- the classes before q have the numbers of their pairs
abbrev pub invariant-loop-q : goal.invariant-loop-q
invariant-loop-q l = Numbering l.t.classes (λ p. get_or l.initial.anew p 0) (λ p. get_or l.cls (entry l.t.rows.now l.t.width p l.a) 0) l.q (λ p. get_or l.anew p 0) (λ i. get_or l.firsts i 0) l.count l.lefts l.rights l.index
