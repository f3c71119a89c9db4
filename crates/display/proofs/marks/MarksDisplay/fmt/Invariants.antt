use Rattle.std.proofs.Common.{map}
use Rattle.std.specs.Fmt.{HasWritten, IsPlainFormatter}
use Rattle.display.specs.Marks.{blocks_of}
use Rattle.display.proofs.marks.MarksDisplay.fmt.Given as goal

abbrev pub invariant-loop-k : goal.invariant-loop-k
invariant-loop-k g l =
    IsPlainFormatter l.fn.f → HasWritten g.W.Write.write_str_gives l.fn.f (blocks_of l.self.ends (map (λ name. name.now) l.self.names.now) l.self.word.now l.k) l.f
