use Rattle.ring_claims.proofs.Turning.{same_turned}
use Rattle.ring_claims.proofs.laws.same_turned.Goals as goal

pub returns : goal.returns
returns c = same_turned
