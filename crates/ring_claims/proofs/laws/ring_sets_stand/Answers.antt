use Rattle.ring_claims.proofs.RingsAsRows.{ring_in}
use Rattle.ring_claims.proofs.laws.ring_sets_stand.Goals as goal

pub returns : goal.returns
returns c = ring_in
