use Rattle.std.proofs.Common.{◌≡◌, length, rules}
use Rattle.ring_claims.proofs.FrontLaws.{none_behind, none_longer}
use Rattle.ring_claims.proofs.OneRingClaim.{is_row_claim}
use Rattle.ring_claims.proofs.claim.ring_sets.Goals as goal

pub returns-in_err-rest : goal.returns-in_err-rest
returns-in_err-rest c = rw c.from_residual-in_err-rest.ensures (none_behind _ _ _ c.in_ok-k.ensures c.in_err-rest.ensures)

pub returns-else-is_empty : goal.returns-else-is_empty
returns-else-is_empty c =
    let (d, f) = c.in_ok-rest.ensures in
    let l : length c.in_ok-rest.rest.now ≡ 0 → ⊥ = search rules in
    none_longer _ _ d _ _ c.in_ok-k.ensures f l

pub returns-in_err-k : goal.returns-in_err-k
returns-in_err-k c = rw c.from_residual.ensures (λ h. c.in_err-k.ensures (is_row_claim c.args.bytes.now h))
