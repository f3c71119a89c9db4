use Rattle.std.proofs.Common.{map, take}
use Rattle.std.specs.Fmt.{HasWritten, IsPlainFormatter}
use Rattle.rule_report.specs.ShownRows.{rows_of, rows_shown}
use Rattle.rule_report.proofs.shown_rows.RowsDisplay.fmt.Given as goal

abbrev pub invariant-loop-t : goal.invariant-loop-t
invariant-loop-t g l =
    IsPlainFormatter l.fn.f → HasWritten g.W.Write.write_str_gives l.fn.f (rows_shown l.self.layout (map (λ name. name.now) l.self.names.now) 0 (take l.t (rows_of l.self.history.now))) l.f
