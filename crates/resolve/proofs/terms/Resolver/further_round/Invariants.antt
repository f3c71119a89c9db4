use Rattle.std.proofs.Common.{◌≡◌}
use Rattle.formulas.specs.Meaning.{Env, value}
use Rattle.resolve.specs.Spaces.{next, steps}
use Rattle.resolve.proofs.terms.Resolver.further_round.Given as goal

abbrev pub invariant-loop-i : goal.invariant-loop-i
invariant-loop-i l = (e : Env) → value l.moved.value e ≡ steps (next (e.groups l.fn.ring)) l.i (value l.fn.place.value e)
