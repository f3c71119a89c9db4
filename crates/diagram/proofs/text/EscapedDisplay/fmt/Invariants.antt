use Rattle.std.proofs.Common.{◌≡◌, ℕ, List, ◌++◌}
use Rattle.std.specs.Fmt.{HasWritten, IsPlainFormatter}
use Rattle.std.specs.Str.{IsUtf8}
use Rattle.diagram.specs.Escapes.{escaped}
use Rattle.diagram.proofs.text.EscapedDisplay.fmt.Given as goal

-- what is written, and what the characters that are left give, is what there is to be in the end
abbrev pub invariant-loop-c : goal.invariant-loop-c
invariant-loop-c g l =
    IsUtf8 l.c-iterator.rest.now
    × (IsPlainFormatter l.initial.f → (done : List ℕ) × HasWritten g.W.Write.write_str_gives l.initial.f done l.f
    × (done ++ escaped l.c-iterator.rest.now ≡ escaped l.fn.self.0.now))
