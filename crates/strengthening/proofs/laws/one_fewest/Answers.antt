use Rattle.strengthening.proofs.KeptWithLaws.{one_fewest}
use Rattle.strengthening.proofs.laws.one_fewest.Goals as goal

pub returns : goal.returns
returns c = one_fewest
