use Rattle.std.proofs.Common.{arith}
use Rattle.rule_report.specs.Reported.{of_claim}
use Rattle.rule_report.proofs.ReportedLaws.{tells_more}
use Rattle.rule_report.proofs.report.claim_answers.Goals as goal

pub loop-claim-preserved : goal.loop-claim-preserved
loop-claim-preserved c =
    let a = c.args.asked in
    tells_more a.file.now a.title.now a.source.now a.options.now of_claim c.args.claims.now c.loop-claim.claim-index c.claim-item.result c.loop-claim.report c.in_ok-answered.field-0 c.append.new.self (omega arith)
    c.claim-item.is c.loop-claim.invariant c.in_ok-answered.ensures c.in_ok-append.ensures.text c.in_ok-append.ensures.pictures
