use Rattle.strengthening.proofs.PruningLaws.{step_refutes}
use Rattle.strengthening.proofs.laws.step_refutes.Goals as goal

pub returns : goal.returns
returns c = step_refutes
