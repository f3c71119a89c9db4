use Rattle.tables.specs.Cells.{entry}
use Rattle.splitting.specs.Repeats.{Repeats}
use Rattle.splitting.proofs.repeats.mark_repeats.Given as goal

-- of the columns before a the marked ones repeat an earlier one
abbrev pub invariant-loop-a : goal.invariant-loop-a
invariant-loop-a l = Repeats l.t.table.classes l.a (entry l.t.table.rows.now l.t.table.width) l.repeats
