use Rattle.rule_report.proofs.ReportedLaws.{reports_all}
use Rattle.rule_report.proofs.report.report_on.Goals as goal

pub returns : goal.returns
returns g c =
    let a = c.args.asked in
    reports_all a.file.now a.title.now a.source.now a.options.now c.args.claims.now c.args.keeps.now c.in_ok-report.report c.in_ok-answers.field-0 c.append.new.self
    c.in_ok-report.ensures.text c.in_ok-report.ensures.pictures c.in_ok-answers.ensures c.in_ok-append.ensures.text c.in_ok-append.ensures.pictures
