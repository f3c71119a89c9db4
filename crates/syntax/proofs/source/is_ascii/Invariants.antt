use Rattle.std.proofs.Common.{◌≡◌, length}
use Rattle.syntax.specs.Parsing.{ascii}
use Rattle.syntax.proofs.source.is_ascii.Given as goal

abbrev pub invariant-loop-rest : goal.invariant-loop-rest
invariant-loop-rest l = ascii l.rest ≡ ascii l.bytes

abbrev pub decreases-loop-rest : goal.decreases-loop-rest
decreases-loop-rest l = length l.rest
