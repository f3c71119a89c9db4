use Rattle.std.proofs.Common.{◌≡◌, ap, ◌∙◌}
use Rattle.rows.specs.RuleLocal.{allowed_local}
use Rattle.rows.specs.Faults.{after_number}
use Rattle.rules.specs.Local.{local_of}
use Rattle.rules.proofs.claim.all_fit.Goals as goal

pub returns : goal.returns
returns c =
    let r = c.args.rule.now in
    let y = after_number r.bits c.args.after.now in
    let e : local_of c.in_ok-of_patterns.field-0.value ≡ allowed_local r.bits y r.allowed.items =
    c.in_ok-of_patterns.ensures ∙ ap (λ t. allowed_local r.bits y t) c.deref.ensures.value in
    rw c.row_of.ensures at (rw e at c.each.ensures)
