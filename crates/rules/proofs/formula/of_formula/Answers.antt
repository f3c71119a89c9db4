use Rattle.std.proofs.Common.{◌≡◌, ℕ, suc, ◌+◌, ◌*◌, ap, arith}
use Rattle.translation.specs.Translation.{claim}
use Rattle.rows.specs.Faults.{after_number}
use Rattle.rows.specs.Limits.{bound}
use Rattle.rules.proofs.formula.of_formula.Goals as goal

pub returns : goal.returns
returns c =
    let b = c.args.rule.now.bits in
    let y = after_number b c.args.after.now in
    let n : 2 * b + 1 ≡ suc (b + b) = omega arith in
    rw (ap (λ (m : ℕ). claim c.args.formula.now (bound m y (λ x. 0))) n) at c.bound_claim.ensures
