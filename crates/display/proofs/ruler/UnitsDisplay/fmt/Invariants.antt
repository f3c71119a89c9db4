use Rattle.std.proofs.Common.{◌++◌}
use Rattle.std.specs.Fmt.{HasWritten, IsPlainFormatter}
use Rattle.display.specs.Ruler.{margin, units_before}
use Rattle.display.proofs.ruler.UnitsDisplay.fmt.Given as goal

abbrev pub invariant-loop-place : goal.invariant-loop-place
invariant-loop-place g l =
    IsPlainFormatter l.fn.f → HasWritten g.W.Write.write_str_gives l.fn.f (margin l.self.width l.self.ends ++ units_before l.place) l.f
