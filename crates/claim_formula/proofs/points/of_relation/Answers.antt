use Rattle.std.proofs.Common.{◌≡◌, refl, subst}
use Rattle.kinds.specs.declared.atom.Atom.TheVariants.{Related}
use Rattle.claims.specs.Claims.{atom, within, single, next, before}
use Rattle.claim_formula.specs.Saying.{Says, is_place}
use Rattle.claim_formula.proofs.points.of_relation.Goals as goal

pub returns-in_ok-within-in-Within : goal.returns-in_ok-within-in-Within
returns-in_ok-within-in-Within c =
    let e : within c.in_ok-number-in-Within.field-0 c.in_ok-number-in-Within-2.field-0 ≡ atom (Related c.args.relation) = rw (c.in-Within.is, c.in_ok-number-in-Within.ensures, c.in_ok-number-in-Within-2.ensures) refl in
    subst (Says (is_place c.args.scope.now) c.in_ok-within-in-Within.field-0.value) e c.in_ok-within-in-Within.ensures

pub returns-in_ok-single-in-Single : goal.returns-in_ok-single-in-Single
returns-in_ok-single-in-Single c =
    let e : single c.in_ok-number-in-Single.field-0 ≡ atom (Related c.args.relation) = rw (c.in-Single.is, c.in_ok-number-in-Single.ensures) refl in
    subst (Says (is_place c.args.scope.now) c.in_ok-single-in-Single.field-0.value) e c.in_ok-single-in-Single.ensures

pub returns-in_ok-next-in-Next : goal.returns-in_ok-next-in-Next
returns-in_ok-next-in-Next c =
    let e : next c.in_ok-number-in-Next.field-0 c.in_ok-number-in-Next-2.field-0 ≡ atom (Related c.args.relation) = rw (c.in-Next.is, c.in_ok-number-in-Next.ensures, c.in_ok-number-in-Next-2.ensures) refl in
    subst (Says (is_place c.args.scope.now) c.in_ok-next-in-Next.field-0.value) e c.in_ok-next-in-Next.ensures

pub returns-in_ok-before-in-Before : goal.returns-in_ok-before-in-Before
returns-in_ok-before-in-Before c =
    let e : before c.in_ok-number-in-Before.field-0 c.in_ok-number-in-Before-2.field-0 ≡ atom (Related c.args.relation) = rw (c.in-Before.is, c.in_ok-number-in-Before.ensures, c.in_ok-number-in-Before-2.ensures) refl in
    subst (Says (is_place c.args.scope.now) c.in_ok-before-in-Before.field-0.value) e c.in_ok-before-in-Before.ensures
