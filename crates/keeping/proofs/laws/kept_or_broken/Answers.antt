use Rattle.keeping.proofs.KeptLaws.{kept_or_broken}
use Rattle.keeping.proofs.laws.kept_or_broken.Goals as goal

pub returns : goal.returns
returns c = kept_or_broken
