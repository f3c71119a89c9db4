use Rattle.std.proofs.Common.{◌/◌, ◌^◌, eqb, sym, ap, ◌∙◌}
use lib.Bits.{and_mask}
use Rattle.words.proofs.BitsLaws.{bit_shift}
use Rattle.words.proofs.bits.has_bit.Goals as goal

pub returns : goal.returns
returns c = ap (λ n. eqb n 1) (and_mask (c.args.column / 2 ^ c.args.x.0) 1) ∙ sym (bit_shift c.args.x.0 c.args.column)
