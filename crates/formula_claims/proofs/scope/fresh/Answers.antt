use Rattle.std.proofs.Common.{◌≡◌, ◌+◌, ◌++◌, length, sym, ◌∙◌, arith, length-append}
use Rattle.std.proofs.lemmas.List.{length-map}
use Rattle.translation.specs.Numbers.{numbers}
use Rattle.translation.proofs.NumbersLaws.{fresh_is, fresh_full}
use Rattle.formula_claims.specs.Scope.{number_of}
use Rattle.formula_claims.proofs.scope.fresh.Goals as goal

pub returns-then-not-is_taken : goal.returns-then-not-is_taken
returns-then-not-is_taken c =
    let l = c.args.taken.now ++ numbers (number_of c.args.scope.now) c.args.names.now in
    sym (fresh_is l c.loop-n.n (sym c.is_taken.ensures ∙ cc) c.loop-n.invariant)

pub returns : goal.returns
returns c =
    let l = c.args.taken.now ++ numbers (number_of c.args.scope.now) c.args.names.now in
    let long : length l ≡ length c.args.taken.now + length c.args.names.now = simp (length-append, length-map) in
    sym (fresh_full l (λ j h. c.loop-n.invariant j (omega arith)) ∙ long)
