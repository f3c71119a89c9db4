use Rattle.std.proofs.Common.{sym}
use Rattle.words.proofs.BitsLaws.{bit_past}
use Rattle.diagram.proofs.drawn.has.Goals as goal

-- a column has 32 bits, and none behind them
pub returns-else-bit-lt-COLUMN_BITS : goal.returns-else-bit-lt-COLUMN_BITS
returns-else-bit-lt-COLUMN_BITS c = sym (bit_past 32 c.args.bit c.args.column c.ranges.column.fits c.if-bit-lt-COLUMN_BITS.false)
