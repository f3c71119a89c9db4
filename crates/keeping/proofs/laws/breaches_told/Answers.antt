use Rattle.keeping.proofs.BreachesLaws.{breaches_told}
use Rattle.keeping.proofs.laws.breaches_told.Goals as goal

pub returns : goal.returns
returns c = breaches_told
