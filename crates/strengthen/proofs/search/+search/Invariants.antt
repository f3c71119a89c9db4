use Rattle.std.proofs.Common.{◌-◌, ◌≤◌, length}
use Rattle.strengthening.specs.Search.{NoneTo}
use Rattle.strengthen.specs.Known.{IsKnown}
use Rattle.strengthen.specs.Listed.{KeptWith}
use Rattle.strengthen.proofs.search.+search.Given as goal

abbrev pub decreases-search : goal.decreases-search
decreases-search g l = l.front.count

-- the claim is kept with none whose next number is below c
abbrev pub invariant-loop-c : goal.invariant-loop-c
invariant-loop-c g l = record {
  known : IsKnown l.problem.given l.known;
  from : l.front.from ≤ l.c;
  none : NoneTo (KeptWith l.problem.given) l.front.from (length l.problem.given.helpers.now) (l.front.count - 1) l.front.choice.now l.c;
}
