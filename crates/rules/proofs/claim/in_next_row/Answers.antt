use Rattle.std.proofs.Common.{◌≡◌, ap, ◌∙◌}
use Rattle.claims.specs.Claims.{C}
use Rattle.claims.specs.Trees.{said}
use Rattle.rows.specs.Faults.{after_number, after_step, groups, some_row}
use Rattle.rules.proofs.claim.in_next_row.Goals as goal

pub returns : goal.returns
returns c =
    let r = c.args.rule.now in
    let js = c.args.after.now in
    let d = said c.args.claim in
    let e : said c.in_ok-step.step ≡ after_step r.layout r.bits (after_number r.bits js) r.table.items (groups js) d =
    c.in_ok-step.ensures ∙ ap (λ t. after_step r.layout r.bits (after_number r.bits js) t (groups js) d) c.deref.ensures.value in
    rw (ap (λ (x : C). some_row r.bits js x) e) at c.some_row.ensures
