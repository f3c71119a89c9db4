use Rattle.std.proofs.Common.{◌≡◌, ◌-◌, ap, ◌∙◌}
use Rattle.claims.specs.Claims.{within, and1}
use Rattle.claims.specs.Trees.{said}
use Rattle.rows.specs.RowClaims.{whole}
use Rattle.rules.proofs.RowLaws.{whole_down}
use Rattle.rules.proofs.row.+whole.Goals as goal

pub returns : goal.returns
returns t c =
    let k = c.args.k in
    let e : and1 (said c.within.result) (said c.in_ok-others.others) ≡ whole k c.args.r c.args.z =
    ap (λ a. and1 a (said c.in_ok-others.others)) c.within.ensures ∙ (ap (λ a. and1 (within (k - 1) c.args.r) a) c.in_ok-others.ensures ∙ whole_down k c.args.r c.args.z c.if-k-eq0.false) in
    rw e at c.and.ensures
