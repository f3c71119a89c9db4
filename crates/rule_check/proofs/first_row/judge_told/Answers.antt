use Rattle.std.proofs.Common.{◌≡◌, ℕ, suc, ◌+◌, ◌<◌, ◌∷◌, List, sym, subst, arith}
use Rattle.claims.specs.Rows.{row, Claim}
use Rattle.claims.specs.Encoded.{sets_needed}
use Rattle.claims.specs.Trees.{said}
use Rattle.workspace.specs.Floor.{NoRoomIn}
use Rattle.rule_check.proofs.ToldLaws.{judged}
use Rattle.rule_check.proofs.first_row.judge_told.Goals as goal

pub returns : goal.returns
returns c =
    let b = c.args.bits in
    let t = said c.args.claim.now in
    let k = sets_needed (suc b) t in
    let m = c.args.memory.words in
    let n = c.largest_in-n.result in
    let l : b + 1 ≡ suc b = omega arith in
    let of_bytes : Claim c.in_ok-bytes.bytes.items k t = subst (λ (e : ℕ). Claim c.in_ok-bytes.bytes.items (sets_needed e t) t) l c.in_ok-bytes.ensures in
    let lent : Claim c.deref.result.now k t = subst (λ (s : List ℕ). Claim s k t) (sym c.deref.ensures.value) of_bytes in
    let again : Claim c.deref-2.result.now k t = subst (λ (s : List ℕ). Claim s k t) (sym c.deref-2.ensures.value) of_bytes in
    let memory : n < c.args.memory.most → NoRoomIn m (k ∷ row t) (n + 1) = subst (λ (s : List ℕ). n < c.args.memory.most → NoRoomIn m s (n + 1)) (sym lent.rows) c.largest_in-n.ensures.largest in
    judged m b t c.args.memory.most n c.in_ok-verdict.verdict c.largest_in-n.ensures.within memory (c.in_ok-verdict.ensures k t again)
