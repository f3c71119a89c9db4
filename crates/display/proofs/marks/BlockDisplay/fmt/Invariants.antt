use Rattle.std.proofs.Common.{◌++◌, [], ◌-◌, ◌/◌, length, map, take, if◌then◌else◌}
use Rattle.std.specs.Fmt.{HasWritten, IsPlainFormatter}
use Rattle.display.specs.Ruler.{tens_line, units_line}
use Rattle.display.specs.Marks.{left_end, right_end, rows_of}
use Rattle.display.proofs.marks.BlockDisplay.fmt.Given as goal

abbrev pub invariant-loop-x : goal.invariant-loop-x
invariant-loop-x g l =
    let tens = if l.self.tens then tens_line l.width l.self.ends l.self.from ((length l.self.columns.now - 1) / 10) else [] in
    let units = units_line l.width l.self.ends (length l.self.columns.now) in
    let names = take l.x (map (λ name. name.now) l.self.names.now) in
    IsPlainFormatter l.fn.f → HasWritten g.W.Write.write_str_gives l.fn.f (tens ++ (units ++ rows_of l.width names 0 (left_end l.self.ends l.self.from) l.self.columns.now (right_end l.self.ends l.self.last))) l.f
