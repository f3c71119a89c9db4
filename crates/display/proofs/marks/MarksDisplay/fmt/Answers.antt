use Rattle.std.proofs.Common.{◌*◌, ◌≤◌, length, map, rules, arith}
use Rattle.std.proofs.Output.{has_written_append, has_written_of_eq}
use Rattle.std.proofs.lemmas.Grind.{common_steps}
use Rattle.display.proofs.MarksLaws.{blocks_of-more}
use Rattle.display.proofs.marks.MarksDisplay.fmt.Goals as goal

pub loop-k-preserved : goal.loop-k-preserved
loop-k-preserved g c = λ plain.
    let before = c.loop-k.invariant plain in
    let written = c.write.ensures.writes before.plain (search rules) in
    let names = map (λ name. name.now) c.args.self.now.names.now in
    let within : 60 * c.loop-k.k ≤ length c.args.self.now.word.now = grind (arith, common_steps, c.div_ceil-k-end.ensures, c.loop-k-test.true) in
    has_written_of_eq _ _ _ _ _ (blocks_of-more c.args.self.now.ends names c.args.self.now.word.now c.loop-k.k c.min.result within c.min.ensures)
    (has_written_append _ _ _ _ _ _ before written)
