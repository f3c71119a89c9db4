use Rattle.std.proofs.Common.{◌++◌}
use Rattle.std.specs.Fmt.{HasWritten, IsPlainFormatter}
use Rattle.display.specs.Ruler.{margin, tens_before}
use Rattle.display.proofs.ruler.TensDisplay.fmt.Given as goal

abbrev pub invariant-loop-k : goal.invariant-loop-k
invariant-loop-k g l =
    IsPlainFormatter l.fn.f → HasWritten g.W.Write.write_str_gives l.fn.f (margin l.self.width l.self.ends ++ tens_before l.self.from l.k) l.f
