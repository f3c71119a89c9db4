use Rattle.words.proofs.BitsLaws.{and_puts}
use Rattle.words.proofs.bits.without_bit.Goals as goal

pub returns : goal.returns
returns c = let p = and_puts 32 c.args.x.0 c.args.column c.requires c.ranges.column.fits in record { here = p.here; others = p.others }
