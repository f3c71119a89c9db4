use Rattle.std.proofs.Common.{None, sym, ◌∙◌}
use Rattle.trees.proofs.LineLaws.{last_else}
use Rattle.trees.proofs.position.last_line.Goals as goal

pub returns-in-None-clause-long : goal.returns-in-None-clause-long
returns-in-None-clause-long c = last_else c.args.front.now None (sym c.in-None.is ∙ c.last_end.ensures)
