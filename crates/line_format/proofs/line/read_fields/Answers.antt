use Rattle.std.proofs.Common.{◌≡◌, ◌∷◌, ◌++◌, subst, rules}
use Rattle.line_format.specs.Line.{NoSpace}
use Rattle.line_format.proofs.LineLaws.{unfit_no_space, unfit_second, unfit_fourth}
use Rattle.line_format.proofs.line.read_fields.Goals as goal

pub returns-in_default : goal.returns-in_default
returns-in_default c =
    let e : c.split_field.result.0.now ≡ c.args.line.now = search rules in
    unfit_no_space c.args.line.now (subst NoSpace e c.split_field.ensures.field)

pub returns-then-is_empty-2 : goal.returns-then-is_empty-2
returns-then-is_empty-2 c =
    let e : c.split_field.result.0.now ++ (32 ∷ c.in-Some.rest.now) ≡ c.args.line.now = search rules in
    unfit_second c.args.line.now _ _ c.split_field.ensures.field e c.split_field-2.result.0.now c.split_field-2.result.1 (search rules) c.split_field-2.ensures.rest

pub returns-in_default-Some : goal.returns-in_default-Some
returns-in_default-Some c =
    let e : c.split_field.result.0.now ++ (32 ∷ c.in-Some.rest.now) ≡ c.args.line.now = search rules in
    let r : c.split_field-2.result.0.now ++ (32 ∷ c.in-Some-more.third.now) ≡ c.in-Some.rest.now = search rules in
    let q : c.split_field-3.result.0.now ++ (32 ∷ c.in_default-Some.fourth.now) ≡ c.in-Some-more.third.now = search rules in
    unfit_fourth c.args.line.now _ _ c.split_field.ensures.field e _ _ _ _ c.split_field-2.ensures.field r c.split_field-3.ensures.field q
