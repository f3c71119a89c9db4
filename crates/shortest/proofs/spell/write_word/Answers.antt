use Rattle.std.proofs.Common.{◌-◌, get_or, ◌∙◌, arith}
use Rattle.std.proofs.lemmas.List.{length-set}
use Rattle.shortest.specs.Spell.{Falls}
use Rattle.shortest.proofs.SpellLaws.{word_above, length_step, write_step}
use Rattle.shortest.proofs.spell.write_word.Goals as goal

pub loop-left-preserved : goal.loop-left-preserved
loop-left-preserved c =
    let (h, long, room, same) = c.loop-left.invariant in
    let prev = c.args.prev.now in
    let via = c.args.via.now in
    let i = c.loop-left.at in
    let out = c.loop-left.out in
    let n = c.loop-left.left in
    let falls : Falls prev i = λ p a b. c.requires.falls p a (omega arith) in
    let above = word_above prev via i (omega arith) in
    let lower = falls i above (omega arith) in
    let shorter = length_step prev via i above falls in
    let kept = length-set out (n - 1) (get_or via i 0) in
    (omega arith, omega arith, omega arith, write_step prev via out i n (n - 1) (omega arith) room long falls ∙ same)
