use Rattle.ring_claims.proofs.RingsAsRows.{ring_decided}
use Rattle.ring_claims.proofs.laws.ring_decided.Goals as goal

pub returns : goal.returns
returns c = ring_decided
