use Rattle.std.proofs.Common.{◌≡◌, take, sym, ap, ◌∙◌}
use Rattle.claims.specs.Claims.{and1}
use Rattle.claims.specs.Trees.{said}
use Rattle.rows.specs.Local.{each}
use Rattle.rows.specs.RuleLocal.{after_local}
use Rattle.rows.specs.RowClaims.{same_number}
use Rattle.rules.specs.Numbers.{number_of}
use Rattle.rules.proofs.StepLaws.{after_groups}
use Rattle.rules.proofs.step.+after_step.Goals as goal

pub returns : goal.returns
returns t c =
    let y = c.args.y.now in
    let b = y.bits in
    let R = c.args.table.now in
    let s = c.args.layout in
    let g = after_groups s b (number_of y) R c.args.js.now (said c.args.claim) c.is_empty.result c.min-n.result c.is_empty.ensures c.if-is_empty.false c.min-n.ensures in
    let now : said c.in_ok-now.now ≡ each s b (after_local b same_number (number_of y) (take c.min-n.result c.args.js.now) R) =
    c.in_ok-now.ensures ∙ ap (λ f. each s b f) c.in_ok-of_step.ensures in
    let rest = said c.in_ok-others.others in
    let first = each s b (after_local b same_number (number_of y) (take c.min-n.result c.args.js.now) R) in
    rw (ap (λ a. and1 a rest) now ∙ (ap (λ a. and1 first a) c.in_ok-others.ensures ∙ sym g)) at c.and.ensures
