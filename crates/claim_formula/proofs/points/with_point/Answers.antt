use Rattle.std.proofs.Common.{◌≡◌, false, sym, ◌∙◌}
use Rattle.claim_formula.specs.Saying.{is_place}
use Rattle.claim_formula.proofs.PointsLaws.{point_some}
use Rattle.claim_formula.proofs.points.with_point.Goals as goal

pub returns : goal.returns
returns c =
    let q : is_place c.args.scope.now c.args.x ≡ false = sym c.is_place.ensures ∙ c.if-is_place.false in
    rw c.in_ok-new.ensures.ok (
    point_some c.args.x c.in_ok-is_point.field-0.value c.args.a.value c.in_ok-of_it.of_it.value (is_place c.args.scope.now c.args.x) q c.in_ok-is_point.ensures c.in_ok-of_it.ensures
    )
