use Rattle.std.proofs.Common.{◌++◌, map}
use Rattle.rule_report.specs.Reported.{general, of_keep, of_claim}
use Rattle.rule_report.proofs.ReportedLaws.{tells_append}
use Rattle.rule_report.proofs.report.answers.Goals as goal

pub returns : goal.returns
returns g c =
    let a = c.args.asked in
    let claims = map of_claim c.args.claims.now in
    tells_append a.file.now a.title.now a.source.now a.options.now (general ++ claims) (map of_keep c.args.keeps.now) c.append.new.self c.in_ok-kept_answers.field-0 c.append-2.new.self
    (tells_append a.file.now a.title.now a.source.now a.options.now general claims c.in_ok-report.report c.in_ok-claim_answers.field-0 c.append.new.self
    c.in_ok-report.ensures c.in_ok-claim_answers.ensures c.in_ok-append.ensures.text c.in_ok-append.ensures.pictures)
    c.in_ok-kept_answers.ensures c.in_ok-append-2.ensures.text c.in_ok-append-2.ensures.pictures
