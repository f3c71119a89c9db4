use Rattle.std.proofs.Common.{◌≡◌, suc}
use Rattle.claims.specs.Claims.{next}
use Rattle.formulas.specs.Meaning.{Meaning}
use Rattle.claim_formula.specs.Saying.{is_place, Point}
use Rattle.claim_formula.proofs.PointsLaws.{next_tells, point_means}
use Rattle.claim_formula.proofs.TellingLaws.{means_tells}
use Rattle.claim_formula.proofs.points.next.Goals as goal

pub returns : goal.returns
returns c =
    let σ = is_place c.args.scope.now in
    let x = c.args.x in
    let y = c.args.y in
    let second = point_means (σ y) y c.in_ok-of_second.of_second.value _ (λ g. g.places y ≡ suc (g.places x)) c.in_ok-of_second.ensures c.in_ok-part.ensures in
    means_tells σ c.in_ok-whole.whole.value (Point (σ x) x (Point (σ y) y (λ g. g.places y ≡ suc (g.places x)))) (next x y)
    (point_means (σ x) x c.in_ok-whole.whole.value (Meaning c.in_ok-of_second.of_second.value) (Point (σ y) y (λ g. g.places y ≡ suc (g.places x))) c.in_ok-whole.ensures second) (next_tells σ x y)
