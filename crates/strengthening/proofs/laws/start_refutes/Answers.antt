use Rattle.strengthening.proofs.PruningLaws.{start_refutes}
use Rattle.strengthening.proofs.laws.start_refutes.Goals as goal

pub returns : goal.returns
returns c = start_refutes
