use Rattle.strengthening.proofs.KeptWithLaws.{helped_always}
use Rattle.strengthening.proofs.laws.helped_always.Goals as goal

pub returns : goal.returns
returns c = helped_always
