use Rattle.strengthen.specs.Known.{IsKnown}
use Rattle.strengthen.proofs.known.narrow.Given as goal

abbrev pub invariant-loop : goal.invariant-loop
invariant-loop g l = IsKnown l.problem.given l.known
