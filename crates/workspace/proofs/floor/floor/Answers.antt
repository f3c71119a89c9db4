use Rattle.workspace.proofs.FloorLaws.{one_width, floor_never_above}
use Rattle.workspace.proofs.floor.floor.Goals as goal

pub returns-clause-never_above : goal.returns-clause-never_above
returns-clause-never_above c = floor_never_above

pub returns-clause-one : goal.returns-clause-one
returns-clause-one c = one_width
