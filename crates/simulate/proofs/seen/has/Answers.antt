use Rattle.std.proofs.Common.{sym}
use Rattle.rows.proofs.StepLaws.{bit_high}
use Rattle.simulate.proofs.seen.has.Goals as goal

pub returns-else-j-lt-COLUMN_BITS : goal.returns-else-j-lt-COLUMN_BITS
returns-else-j-lt-COLUMN_BITS c = sym (bit_high 32 c.args.j c.args.column c.ranges.column.fits c.if-j-lt-COLUMN_BITS.false)
