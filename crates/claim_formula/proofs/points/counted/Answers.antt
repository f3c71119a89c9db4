use Rattle.std.proofs.Common.{◌≡◌, true, false, subst}
use Rattle.kinds.specs.declared.multiple.Multiple.{Multiple}
use Rattle.claims.specs.Claims.{multiple}
use Rattle.formulas.specs.Meaning.{Meaning}
use Rattle.claim_formula.specs.Saying.{Means, is_place}
use Rattle.claim_formula.proofs.CountingLaws.{set_count_tells, place_count_tells, place_count_fails}
use Rattle.claim_formula.proofs.TellingLaws.{means_tells}
use Rattle.claim_formula.proofs.points.counted.Goals as goal

pub returns-then-not-is_place : goal.returns-then-not-is_place
returns-then-not-is_place c =
    let m : Multiple = record { remainder = c.args.remainder; set = c.args.x } in
    let q : is_place c.args.scope.now c.args.x ≡ false = cc in
    rw c.in_ok-new.ensures.ok (set_count_tells (is_place c.args.scope.now) m q)

pub returns-then-remainder-eq1 : goal.returns-then-remainder-eq1
returns-then-remainder-eq1 c =
    let m : Multiple = record { remainder = c.args.remainder; set = c.args.x } in
    let q : is_place c.args.scope.now c.args.x ≡ true = cc in
    rw c.in_ok-always.ensures.ok (place_count_tells (is_place c.args.scope.now) m q c.if-remainder-eq1.true)

pub returns : goal.returns
returns c =
    let σ = is_place c.args.scope.now in
    let m : Multiple = record { remainder = c.args.remainder; set = c.args.x } in
    let q : σ c.args.x ≡ true = cc in
    let r = c.in_ok-never.never.value in
    let means = subst (λ a. Means r (λ e. Meaning a e → ⊥)) c.in_ok-always.ensures.ok c.in_ok-never.ensures in
    means_tells σ r (λ e. Unit {0} → ⊥) (multiple m) means (place_count_fails σ m q c.if-remainder-eq1.false)
