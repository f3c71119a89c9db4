use Rattle.std.proofs.Common.{arith}
use Rattle.simulate.proofs.RowLaws.{pow_pred}
use Rattle.simulate.proofs.seen.Seen.+after.Goals as goal

pub returns-then-bit_after-clause-fits : goal.returns-then-bit_after-clause-fits
returns-then-bit_after-clause-fits n c = pow_pred c.args.count c.after-rest.result c.if-count-eq0.false c.after-rest.ensures.fits

pub returns-else-bit_after-clause-fits : goal.returns-else-bit_after-clause-fits
returns-else-bit_after-clause-fits n c = let h = pow_pred c.args.count c.after-rest.result c.if-count-eq0.false c.after-rest.ensures.fits in omega arith
