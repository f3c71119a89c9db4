use Rattle.resolve.specs.Scopes.{Steady}
use Rattle.resolve.proofs.Iff.{if_some}
use Rattle.std.proofs.Common.{subst}
use Rattle.resolve.proofs.scope.+defined.Goals as goal

pub returns-in-Named-clause-steady : goal.returns-in-Named-clause-steady
returns-in-Named-clause-steady t c = if_some c.defined.result _ _ (λ k h n st. h n (subst (λ s. Steady n s) c.in-Named.is st).1) c.defined.ensures.steady

pub returns-else-is_same-clause-steady : goal.returns-else-is_same-clause-steady
returns-else-is_same-clause-steady t c = if_some c.defined-in-Defined.result _ _ (λ k h n st. h n (subst (λ s. Steady n s) c.in-Defined.is st)) c.defined-in-Defined.ensures.steady

pub returns-in-Row-clause-steady : goal.returns-in-Row-clause-steady
returns-in-Row-clause-steady t c = if_some c.defined-in-Row.result _ _ (λ k h n st. h n (subst (λ s. Steady n s) c.in-Row.is st).1) c.defined-in-Row.ensures.steady
