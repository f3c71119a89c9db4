use Rattle.std.proofs.Common.{◌∙◌, ◌<◌, length, sym, add-one, pow_pos, arith}
use Rattle.std.proofs.lemmas.List.{get_or-set_same, length-set}
use Rattle.selection.specs.Selections.{count}
use Rattle.selection.proofs.MapLaws.{room, filled_none, filled_past, filled_more}
use Rattle.selection.proofs.map.fill.Goals as goal
use Rattle.selection.proofs.map.fill.Goals.{then-has, else-has}

pub loop-x-init : goal.loop-x-init
loop-x-init c =
    let some : 0 < length c.args.map.now = omega (arith, pow_pos (count c.args.to)) in
    filled_none c.args.from c.args.to _ (get_or-set_same c.args.map.now 0 0 0 some)

pub double-requires : goal.double-requires
double-requires c = omega (arith, length-set c.args.map.now 0 0, room c.loop-x.invariant (omega arith) (sym c.has.ensures ∙ c.if-has.true))

pub overflow_mul-n : goal.overflow_mul-n
overflow_mul-n c = omega (arith, room c.loop-x.invariant (omega arith) (sym c.has.ensures ∙ c.if-has.true))

pub loop-x-preserved : goal.loop-x-preserved
loop-x-preserved c = elim c.if-has.branch [
  | then-has w ↦ rw (w.map-is, w.n-is, add-one) (filled_more c.loop-x.invariant (omega arith) (sym c.has.ensures ∙ w.if-has.true) w.bit_of.result w.bit_of.ensures w.double.ensures.kept w.double.ensures.put)
  | else-has w ↦ rw (w.map-is, w.n-is, add-one) (filled_past c.loop-x.invariant (sym c.has.ensures ∙ w.if-has.false))
]
