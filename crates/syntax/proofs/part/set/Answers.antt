use Rattle.syntax.proofs.ExpressionLaws.{listed_view}
use Rattle.syntax.proofs.part.set.Goals as goal

pub returns : goal.returns
returns c = listed_view c.args.all
