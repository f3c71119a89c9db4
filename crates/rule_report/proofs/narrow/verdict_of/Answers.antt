use Rattle.rule_report.specs.Narrowing.{IsFound}
use Rattle.rule_report.proofs.NarrowingLaws.{of_question}
use Rattle.rule_report.proofs.narrow.verdict_of.Goals as goal

pub returns : goal.returns
returns c =
    let e = c.in_ok-rule.ensures in
    of_question (IsFound c.args.most c.first_row-verdict.result) c.args.source.now.bits c.args.subject.now c.args.lines.now c.in_ok-question.question c.in_ok-rule.rule c.in_ok-property.property
    c.in_ok-question.ensures.0 c.in_ok-question.ensures.1 (record { bits = e.bits; layout = e.layout; patterns = e.patterns; limits = e.limits; lines = e.lines }) c.in_ok-property.ensures c.first_row-verdict.ensures
