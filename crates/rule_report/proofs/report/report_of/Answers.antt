use Rattle.std.proofs.lemmas.Result.{IfOk-weaker}
use Rattle.rule_report.proofs.report.report_of.Goals as goal

pub returns : goal.returns
returns g c =
    let e = c.in_ok-source.ensures in
    IfOk-weaker c.report_of_source.result _ _
    (λ report h. (
      c.in_ok-source.source,
      record {
        file = e.file;
        text_is = e.text;
        names = e.names;
        layout = e.layout;
        rule = record { bits = e.bits; layout = e.ring; patterns = e.patterns; limits = e.limits; lines = e.lines };
        starts = e.starts;
        helpers = e.helpers;
        once = e.once;
        rows = e.rows;
      },
      h,
    )) c.report_of_source.ensures
