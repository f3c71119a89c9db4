use Rattle.syntax.proofs.ExpressionLaws.{call_view}
use Rattle.syntax.proofs.part.called.Goals as goal

pub returns : goal.returns
returns c = call_view c.args.name c.args.all
