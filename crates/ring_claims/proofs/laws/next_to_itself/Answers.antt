use Rattle.ring_claims.proofs.RingsAsRows.{next_to_itself}
use Rattle.ring_claims.proofs.laws.next_to_itself.Goals as goal

pub returns : goal.returns
returns c = next_to_itself
