use Rattle.words.proofs.BitsLaws.{or_puts}
use Rattle.words.proofs.bits.with_bit.Goals as goal

pub returns : goal.returns
returns c = let p = or_puts 32 c.args.x.0 c.args.column c.requires in record { here = p.here; others = p.others }
