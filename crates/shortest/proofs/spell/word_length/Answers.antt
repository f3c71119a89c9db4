use Rattle.std.proofs.Common.{◌≡◌, ◌<◌, length, ap, ◌∙◌, arith}
use Rattle.shortest.specs.Spell.{word, Falls}
use Rattle.shortest.proofs.SpellLaws.{word_start, length_step}
use Rattle.shortest.proofs.spell.word_length.Goals as goal

pub loop-at-preserved : goal.loop-at-preserved
loop-at-preserved c =
    let (h, same) = c.loop-at.invariant in
    let above : 0 < c.loop-at.at = omega arith in
    let falls : Falls c.args.prev.now c.loop-at.at = λ i a b. c.requires.falls i a (omega arith) in
    let lower = falls c.loop-at.at above (omega arith) in
    (omega arith, λ via. omega (arith, same via, length_step c.args.prev.now via c.loop-at.at above falls))

pub returns-clause-value : goal.returns-clause-value
returns-clause-value c via =
    let empty : length (word c.args.prev.now via c.loop-at.at) ≡ 0 = ap (λ i. length (word c.args.prev.now via i)) c.loop-at-test.false ∙ ap length (word_start c.args.prev.now via) in
    omega (arith, c.loop-at.invariant.1 via)
