use Rattle.keeping.proofs.KeptLaws.{broken_in_parts}
use Rattle.keeping.proofs.laws.broken_in_parts.Goals as goal

pub returns : goal.returns
returns c = broken_in_parts
