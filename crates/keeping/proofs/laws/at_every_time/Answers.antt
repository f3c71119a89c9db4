use Rattle.keeping.proofs.KeptLaws.{at_every_time}
use Rattle.keeping.proofs.laws.at_every_time.Goals as goal

pub returns : goal.returns
returns c = at_every_time
