use Rattle.std.proofs.Common.{◌++◌, List, ℕ, ap, ◌∙◌, map, take, get_or, rules, arith}
use Rattle.std.proofs.Output.{has_written_append, has_written_of_eq}
use Rattle.display.specs.declared.ends.Ends.{Ends}
use Rattle.display.specs.Marks.{shown}
use Rattle.rule_report.specs.ShownRows.{ends_of, rows_of, rows_shown, step_line}
use Rattle.rule_report.proofs.ShownRowsLaws.{rows_shown-more}
use Rattle.rule_report.proofs.shown_rows.RowsDisplay.fmt.Goals as goal

pub loop-t-preserved : goal.loop-t-preserved
loop-t-preserved g c = λ plain.
    let layout = c.args.self.now.layout in
    let names = map (λ name. name.now) c.args.self.now.names.now in
    let history = c.args.self.now.history.now in
    let t = c.loop-t.t in
    let row = c.row-item.result in
    let before = c.loop-t.invariant plain in
    let written = c.write.ensures.writes before.plain (search rules) in
    let read = c.row-item.is ∙ ap (λ rows. get_or rows t row) c.deref-row-items.ensures.value in
    has_written_of_eq _ _ _ _ _ (ap (λ (e : Ends). rows_shown layout names 0 (take t (rows_of history)) ++ (step_line t ++ shown e names c.as_slice.result.now)) c.ends_of.ensures ∙ ap (λ (w : List ℕ). rows_shown layout names 0 (take t (rows_of history)) ++ (step_line t ++ shown (ends_of layout) names w)) c.as_slice.ensures.value ∙ rows_shown-more layout names history.rows.items t row (omega arith) read)
    (has_written_append _ _ _ _ _ _ before written)
