use Rattle.ring_claims.proofs.RingsAsRows.{ring_says}
use Rattle.ring_claims.proofs.laws.ring_says.Goals as goal

pub returns : goal.returns
returns c = ring_says
