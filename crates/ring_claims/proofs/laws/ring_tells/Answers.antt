use Rattle.ring_claims.proofs.RingsAsRows.{ring_tells}
use Rattle.ring_claims.proofs.laws.ring_tells.Goals as goal

pub returns : goal.returns
returns c = ring_tells
