use Rattle.std.proofs.Common.{◌≡◌, length, rules}
use Rattle.ring_claims.specs.Trees.{said}
use Rattle.ring_claims.proofs.FrontLaws.{carry, none_behind, none_longer}
use Rattle.ring_claims.proofs.OneRingClaim.{is_row_claim}
use Rattle.ring_claims.proofs.reading.read_ring.Goals as goal

pub returns-in_err-c : goal.returns-in_err-c
returns-in_err-c c = carry _ _ _ _ c.from_residual.ensures.1 (λ q. none_behind _ _ _ c.in-Some.ensures (c.in_err-c.ensures q))

pub returns-else-is_empty : goal.returns-else-is_empty
returns-else-is_empty c =
    let l : length c.in_ok-c.rest.now ≡ 0 → ⊥ = search rules in
    λ q. none_longer _ _ (said c.in_ok-c.c) _ _ c.in-Some.ensures c.in_ok-c.ensures l

pub returns-in_default : goal.returns-in_default
returns-in_default c = λ _ h. c.in_default.ensures (is_row_claim c.args.bytes.now h)
