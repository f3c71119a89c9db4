use Rattle.solve.proofs.TellingLaws.{tells}
use Rattle.solve.proofs.first.first_row.Goals as goal

pub returns : goal.returns
returns c = tells _ _ _ c.in_ok-found.ensures
