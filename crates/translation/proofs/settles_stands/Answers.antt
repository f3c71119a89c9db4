use Rattle.translation.proofs.SettlesLaws.{settles}
use Rattle.translation.proofs.settles_stands.Goals as goal

pub returns : goal.returns
returns c = settles
