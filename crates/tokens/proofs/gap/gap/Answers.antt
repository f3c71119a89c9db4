use Rattle.tokens.proofs.GapsLaws.{gap_counted}
use Rattle.tokens.proofs.gap.gap.Goals as goal

pub returns-clause-gap : goal.returns-clause-gap
returns-clause-gap c = gap_counted c.args.bytes.now c.blanks.result c.blanks.ensures.count
