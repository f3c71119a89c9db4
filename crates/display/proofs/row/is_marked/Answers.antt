use Rattle.std.proofs.Common.{sym}
use Rattle.words.proofs.BitsLaws.{bit_past}
use Rattle.display.proofs.row.is_marked.Goals as goal

-- a column has 32 bits, and none behind them
pub returns-else-x-lt-COLUMN_BITS : goal.returns-else-x-lt-COLUMN_BITS
returns-else-x-lt-COLUMN_BITS c = sym (bit_past 32 c.args.x c.args.column c.ranges.column.fits c.if-x-lt-COLUMN_BITS.false)
