use Rattle.ring_claims.proofs.OneRingClaim.{one_ring_claim}
use Rattle.ring_claims.proofs.laws.one_ring_claim.Goals as goal

pub returns : goal.returns
returns c = one_ring_claim
