use Rattle.std.proofs.Common.{◌∙◌, ap, sym, refl}
use Rattle.resolve.specs.Scopes.{places_of}
use Rattle.resolve.proofs.ScopesLaws.{ring_is, ring_shape}
use Rattle.resolve.proofs.steps.check_ends.Goals as goal

pub returns-in-None-clause-straight : goal.returns-in-None-clause-straight
returns-in-None-clause-straight c = λ e. ring_is c.args.scope.now e ∙ ap (λ o. places_of o e) (sym c.ring_of.ensures ∙ c.in-None.is)

pub returns-in-Some-clause-faults : goal.returns-in-Some-clause-faults
returns-in-Some-clause-faults c = (ring_shape c.args.scope.now _ (sym c.ring_of.ensures ∙ c.in-Some.is), refl)
