use Rattle.std.proofs.Common.{◌≡◌, ◌+◌}
use Rattle.formulas.specs.Meaning.{Env, value}
use Rattle.resolve.proofs.terms.Resolver.further_ahead.Given as goal

abbrev pub invariant-loop-i : goal.invariant-loop-i
invariant-loop-i l = (e : Env) → value l.moved.value e ≡ value l.fn.place.value e + l.i
