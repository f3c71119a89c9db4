use Rattle.std.proofs.Common.{subst}
use Rattle.std.proofs.lemmas.Result.{IfOk-weaker}
use Rattle.rule_report.specs.Reported.{Reports}
use Rattle.rule_report.proofs.report.report_of_source.Goals as goal

pub returns : goal.returns
returns g c =
    let file = c.args.file.now in
    let title = c.title_of.result.now in
    let s = c.args.source.now in
    let o = c.args.options.now in
    IfOk-weaker c.report_on.result _ _
    (λ report h. record {
      claims = c.in_ok-claims.claims.items;
      are_claims = record { statements = c.in_ok-claims.ensures.all; each = c.in_ok-claims.ensures.each };
      keeps = c.in_ok-keeps.keeps.items;
      are_keeps = record { statements = c.in_ok-keeps.ensures.all; each = c.in_ok-keeps.ensures.each };
      title = title;
      reports = subst (λ keeps. Reports file title s o c.in_ok-claims.claims.items keeps report) c.deref-2.ensures.value (subst (λ claims. Reports file title s o claims c.deref-2.result.now report) c.deref.ensures.value h);
    }) c.report_on.ensures
