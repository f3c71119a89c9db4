use Rattle.std.proofs.Common.{◌∙◌, sym, arith}
use Rattle.selection.proofs.MapLaws.{bit_on, bit_off}
use Rattle.selection.proofs.map.bit_of.Goals as goal

pub returns-then-has : goal.returns-then-has
returns-then-has c = bit_on c.args.sets c.args.x.0 c.place.result c.requires (sym c.has.ensures ∙ c.if-has.true) c.place.ensures.value (omega arith)

pub returns-else-has : goal.returns-else-has
returns-else-has c = bit_off c.args.sets c.args.x.0 (sym c.has.ensures ∙ c.if-has.false)
