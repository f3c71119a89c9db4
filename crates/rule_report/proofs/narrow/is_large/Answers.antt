use Rattle.rule_report.proofs.NarrowingLaws.{large_or_answered}
use Rattle.rule_report.proofs.narrow.is_large.Goals as goal

pub returns : goal.returns
returns c =
    large_or_answered c.args.most c.args.source.now.bits c.args.subject.now c.args.lines.now c.in_ok-found.found c.in_ok-large.large c.in_ok-large.ensures c.in_ok-found.ensures
