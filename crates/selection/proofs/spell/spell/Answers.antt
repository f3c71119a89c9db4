use Rattle.std.proofs.Common.{get_or, set, ap, ◌∙◌, add-one, arith}
use Rattle.selection.specs.Selections.{spread}
use Rattle.selection.proofs.SpellLaws.{each_more}
use Rattle.selection.proofs.spell.spell.Goals as goal

pub loop-i-preserved : goal.loop-i-preserved
loop-i-preserved c =
    let s = c.args.sets in
    let i = c.loop-i.i in
    ap (set c.loop-i.word i) c.spread.ensures.value
    ∙ ap (λ w. set w i (spread s (get_or w i 0))) c.loop-i.invariant
    ∙ rw add-one (each_more (spread s) i c.args.word.now (omega arith))
