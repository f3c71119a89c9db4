use Rattle.std.proofs.Common.{rules}
use Rattle.simulate.proofs.row.is_stuck.Goals as goal

pub returns : goal.returns
returns c = rw (c.around.ensures.left, c.around.ensures.right) at c.all_wait.ensures
