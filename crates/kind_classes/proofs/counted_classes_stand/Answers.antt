use Rattle.kind_classes.proofs.CountedLaws.{counted_classes}
use Rattle.kind_classes.proofs.counted_classes_stand.Goals as goal

pub returns : goal.returns
returns c = counted_classes
