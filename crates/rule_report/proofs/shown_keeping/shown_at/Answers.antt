use Rattle.std.proofs.Common.{◌≡◌, ℕ, suc, ◌+◌, string_bytes, subst, arith}
use Rattle.claims.specs.Claims.{C}
use Rattle.claims.specs.Trees.{said}
use Rattle.rule_report.specs.ShownClaim.{IsShownAs}
use Rattle.rule_report.proofs.shown_keeping.shown_at.Goals as goal

pub returns : goal.returns
returns c =
    let o = c.args.asked.options.now in
    let k = c.args.keeping.now in
    let b = k.rule.now.bits in
    let words = string_bytes c.in_ok-shown.shown in
    let l : b + 1 ≡ suc b = omega arith in
    let least : IsShownAs o (suc b) (said c.in_ok-claim.claim) words = subst (λ (n : ℕ). IsShownAs o n (said c.in_ok-claim.claim) words) l c.in_ok-shown.ensures in
    record {
      claim = words;
      shown = subst (λ (d : C). IsShownAs o (suc b) d words) c.in_ok-claim.ensures least;
      words_are = c.in_ok-format.ensures.ok;
    }
