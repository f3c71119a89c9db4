use Rattle.std.proofs.Common.{length}
use Rattle.strengthening.specs.Search.{NoneBelow}
use Rattle.strengthen.specs.Known.{IsKnown}
use Rattle.strengthen.specs.Listed.{KeptWith}
use Rattle.strengthen.proofs.strengthen.search_all.Given as goal

-- the claim is kept with none of fewer than `count`
abbrev pub invariant-loop-count : goal.invariant-loop-count
invariant-loop-count g l = record {
  known : IsKnown l.problem.given l.known;
  none : NoneBelow (KeptWith l.problem.given) (length l.problem.given.helpers.now) l.count;
}
