use Rattle.std.proofs.Common.{ap, ◌∙◌}
use Rattle.rows.specs.Rows.{step}
use Rattle.rule_report.proofs.ShownRowsLaws.{follows_more}
use Rattle.rule_report.proofs.shown_rows.history.Goals as goal

pub loop-t-preserved : goal.loop-t-preserved
loop-t-preserved c =
    let r = c.args.source.now.rule in
    follows_more r c.args.row.now c.loop-t._t c.loop-t.history c.push.new.self c.last.result.now c.in_ok-next.next c.loop-t.invariant c.last.ensures.last
    (c.in_ok-next.ensures.after ∙ ap (λ table. step r.layout r.bits table c.last.result.now) c.deref.ensures.value) c.in_ok-push.ensures.ok c.push.ensures.modules
