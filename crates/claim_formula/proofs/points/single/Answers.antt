use Rattle.std.proofs.Common.{subst}
use Rattle.formulas.specs.Meaning.{Meaning}
use Rattle.claim_formula.specs.Saying.{Means, is_place, Point}
use Rattle.claims.specs.Claims.{single}
use Rattle.claim_formula.proofs.PointsLaws.{single_tells}
use Rattle.claim_formula.proofs.TellingLaws.{means_tells}
use Rattle.claim_formula.proofs.points.single.Goals as goal

pub returns : goal.returns
returns c =
    let σ = is_place c.args.scope.now in
    let x = c.args.x in
    let r = c.in_ok-whole.whole.value in
    let means = subst (λ a. Means r (Point (σ x) x (Meaning a))) c.in_ok-new.ensures.ok c.in_ok-whole.ensures in
    means_tells σ r (Point (σ x) x (λ e. Unit {0})) (single x) means (single_tells σ x)
