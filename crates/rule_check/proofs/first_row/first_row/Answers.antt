use Rattle.std.proofs.Common.{ℕ, subst}
use Rattle.claims.specs.Claims.{C}
use Rattle.claims.specs.Trees.{said}
use Rattle.rule_check.specs.Told.{Judged}
use Rattle.rules.specs.Property.{Has, claim_of}
use Rattle.rule_check.proofs.ToldLaws.{answered, tells}
use Rattle.rule_check.proofs.first_row.first_row.Goals as goal

pub returns : goal.returns
returns c =
    let q = c.args.question.now in
    let r = q.rule.now in
    let p = q.property in
    let v = c.in_ok-verdict.verdict in
    let most = c.program.result.most in
    let given : Judged c.program.result.words r.bits (said c.in_ok-claim.claim) most v = c.in_ok-verdict.ensures in
    let words : Judged 1048576 r.bits (said c.in_ok-claim.claim) most v = subst (λ (m : ℕ). Judged m r.bits (said c.in_ok-claim.claim) most v) c.program.ensures.1 given in
    let asked : Judged 1048576 r.bits (said c.in_ok-claim.claim) c.args.most v = subst (λ (n : ℕ). Judged 1048576 r.bits (said c.in_ok-claim.claim) n v) c.program.ensures.0 words in
    let found : Judged 1048576 r.bits (claim_of r p) c.args.most v = subst (λ (d : C). Judged 1048576 r.bits d c.args.most v) c.in_ok-claim.ensures asked in
    answered 1048576 r.bits (Has r p) (claim_of r p) c.args.most v (tells r p q.of) found
