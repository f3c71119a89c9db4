use Rattle.kind_classes.proofs.EqualSetsLaws.{equal_sets}
use Rattle.kind_classes.proofs.equal_sets_stand.Goals as goal

pub returns : goal.returns
returns c = equal_sets
