use Rattle.std.proofs.Common.{rules, ◌+◌, ◌*◌}
use Rattle.std.proofs.Output.{has_written_append, has_written_of_eq}
use Rattle.display.proofs.RulerLaws.{number_written, tens_before-more}
use Rattle.display.proofs.ruler.TensDisplay.fmt.Goals as goal

pub loop-k-preserved : goal.loop-k-preserved
loop-k-preserved g c = λ plain.
    let before = c.loop-k.invariant plain in
    let number = number_written c.laid_out.result (c.args.self.now.from + 10 * c.loop-k.k) c.laid_out.ensures in
    let written = c.write-in-loop-k.ensures.writes before.plain (search rules) in
    has_written_of_eq _ _ _ _ _ (tens_before-more c.args.self.now.width c.args.self.now.ends c.args.self.now.from c.loop-k.k)
    (has_written_append _ _ _ _ _ _ before (has_written_of_eq _ _ _ _ _ number written))
