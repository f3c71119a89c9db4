use Rattle.std.proofs.Common.{◌-◌, ◌/◌, [], length, rules, if◌then◌else◌}
use Rattle.std.proofs.Output.{has_written_append, has_written_of_eq}
use Rattle.display.specs.Ruler.{tens_line, units_line}
use Rattle.display.specs.Marks.{left_end, right_end}
use Rattle.display.proofs.MarksLaws.{name-le-longest, rows_of-more}
use Rattle.display.proofs.marks.BlockDisplay.fmt.Goals as goal

pub overflow_sub-gap : goal.overflow_sub-gap
overflow_sub-gap g c = rw c.longest-width.ensures (name-le-longest (λ name. name.now) c.args.self.now.names.now c.loop-x.x _ c.loop-x-test.true)

pub loop-x-preserved : goal.loop-x-preserved
loop-x-preserved g c = λ plain.
    let self = c.args.self.now in
    let width = c.longest-width.result in
    let tens = if self.tens then tens_line width self.ends self.from ((length self.columns.now - 1) / 10) else [] in
    let units = units_line width self.ends (length self.columns.now) in
    let before = c.loop-x.invariant plain in
    let written = c.writeln.ensures.writes before.plain (search rules) in
    has_written_of_eq _ _ _ _ _ (rows_of-more (λ name. name.now) self.names.now c.loop-x.x _ width (left_end self.ends self.from) c.left_end-left.result.now self.columns.now (right_end self.ends self.last) c.right_end-right.result.now tens units c.loop-x-test.true c.left_end-left.ensures c.right_end-right.ensures)
    (has_written_append _ _ _ _ _ _ before written)
