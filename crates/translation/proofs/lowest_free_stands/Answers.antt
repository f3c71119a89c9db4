use Rattle.translation.proofs.NumbersLaws.{lowest_free}
use Rattle.translation.proofs.lowest_free_stands.Goals as goal

pub returns : goal.returns
returns c = lowest_free
