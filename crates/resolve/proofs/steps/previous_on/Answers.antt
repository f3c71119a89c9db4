use Rattle.std.proofs.Common.{◌∙◌, ap, suc, not, ◌-◌, ◌&&◌, ◌||◌}
use Rattle.formulas.specs.Meaning.{value, members}
use Rattle.formulas.specs.Sets.{mix, lowest, highest}
use Rattle.claims.specs.Places.{one}
use Rattle.resolve.proofs.Iff.{if_ok}
use Rattle.resolve.proofs.RingLaws.{previous_is}
use Rattle.resolve.proofs.steps.previous_on.Goals as goal

pub returns : goal.returns
returns c = if_ok c.prev.result _ _ (λ t h e.
    let u = e.groups c.args.ring in
    let v = value c.args.place.value e in
    let first = c.in_ok-first-2.ensures e ∙ ap (λ p. one (value p e)) c.in_ok-first.ensures.ok in
    let here = c.in_ok-here-2.ensures e ∙ ap (λ w. mix (λ x y. x && not y) (members c.in_ok-here.here.value e) w) first ∙ ap (λ w. mix (λ x y. x && not y) w (one 0)) (c.in_ok-here.ensures e) in
    let last = c.in_ok-last.ensures e ∙ ap (λ g. highest (members g e)) c.in_ok-places.ensures.ok in
    let end = c.in_ok-end-2.ensures e ∙ ap one (c.in_ok-end.ensures e ∙ ap suc last) in
    let both = c.in_ok-both.ensures e ∙ ap (λ w. mix (λ x y. x || y) w (members c.in_ok-end-2.end.value e)) here ∙ ap (λ w. mix (λ x y. x || y) (mix (λ x y. x && not y) (one v) (one 0)) w) end in
    h e ∙ ap (λ n. n - 1) (c.in_ok-behind.ensures e ∙ ap lowest both) ∙ previous_is u v) c.prev.ensures
