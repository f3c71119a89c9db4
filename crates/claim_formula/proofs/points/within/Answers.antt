use Rattle.std.proofs.Common.{◌≡◌, true, false}
use Rattle.claim_formula.specs.Saying.{is_place}
use Rattle.claim_formula.proofs.PointsLaws.{itself_tells, same_tells, in_tells, only_tells, sub_tells}
use Rattle.claim_formula.proofs.points.within.Goals as goal

pub returns-then-x-y : goal.returns-then-x-y
returns-then-x-y c = rw c.in_ok-new.ensures.ok (itself_tells (is_place c.args.scope.now) c.args.x c.args.y c.if-x-y.true)

pub returns-in_ok-new-in-true-true : goal.returns-in_ok-new-in-true-true
returns-in_ok-new-in-true-true c =
    let p : is_place c.args.scope.now c.args.x ≡ true = cc in
    let q : is_place c.args.scope.now c.args.y ≡ true = cc in
    rw c.in_ok-new-in-true-true.ensures.ok (same_tells (is_place c.args.scope.now) c.args.x c.args.y p q)

pub returns-in_ok-new-in-false-true-2 : goal.returns-in_ok-new-in-false-true-2
returns-in_ok-new-in-false-true-2 c =
    let p : is_place c.args.scope.now c.args.x ≡ false = cc in
    let q : is_place c.args.scope.now c.args.y ≡ true = cc in
    rw (c.in_ok-new-in-false-true-2.ensures.ok, c.in_ok-new-in-false-true.ensures.ok) (only_tells (is_place c.args.scope.now) c.args.x c.args.y p q)

pub returns-in_ok-new-in-true-false : goal.returns-in_ok-new-in-true-false
returns-in_ok-new-in-true-false c =
    let p : is_place c.args.scope.now c.args.x ≡ true = cc in
    let q : is_place c.args.scope.now c.args.y ≡ false = cc in
    rw c.in_ok-new-in-true-false.ensures.ok (in_tells (is_place c.args.scope.now) c.args.x c.args.y p q)

pub returns-in_ok-new-in-false-false : goal.returns-in_ok-new-in-false-false
returns-in_ok-new-in-false-false c =
    let p : is_place c.args.scope.now c.args.x ≡ false = cc in
    let q : is_place c.args.scope.now c.args.y ≡ false = cc in
    rw c.in_ok-new-in-false-false.ensures.ok (sub_tells (is_place c.args.scope.now) c.args.x c.args.y p q)
