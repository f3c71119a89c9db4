use Rattle.rule_report.specs.ShownRows.{Follows}
use Rattle.rule_report.proofs.shown_rows.history.Given as goal

-- the rows so far
abbrev pub invariant-loop-t : goal.invariant-loop-t
invariant-loop-t l = Follows l.source.rule l.row l._t l.history
