use Rattle.bitsets.proofs.BitrowsLaws.{has_put}
use Rattle.bitsets.proofs.bitrows.insert.Goals as goal

pub returns : goal.returns
returns c = has_put c.args.row.now c.args.q c.with_bit-word.result c.requires c.with_bit-word.ensures.here c.with_bit-word.ensures.others
