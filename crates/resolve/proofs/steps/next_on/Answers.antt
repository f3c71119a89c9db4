use Rattle.std.proofs.Common.{◌∙◌, ap, ◌&&◌}
use Rattle.formulas.specs.Meaning.{value, members}
use Rattle.formulas.specs.Sets.{mix, highest}
use Rattle.claims.specs.Places.{one}
use Rattle.resolve.proofs.Iff.{if_ok}
use Rattle.resolve.proofs.RingLaws.{next_is}
use Rattle.resolve.proofs.steps.next_on.Goals as goal

pub returns : goal.returns
returns c = if_ok c.most.result _ _ (λ t h e.
    let u = e.groups c.args.ring in
    let v = value c.args.place.value e in
    let behind = c.in_ok-behind-2.ensures e ∙ ap one (c.in_ok-behind.ensures e) in
    let places = ap (λ g. members g e) c.in_ok-places.ensures.ok in
    let ahead = c.in_ok-ahead.ensures e ∙ ap (λ w. mix (λ x y. x && y) (members c.in_ok-behind-2.behind.value e) w) places ∙ ap (λ w. mix (λ x y. x && y) w u) behind in
    h e ∙ ap highest ahead ∙ next_is u v) c.most.ensures
