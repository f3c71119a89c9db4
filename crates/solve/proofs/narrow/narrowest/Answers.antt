use Rattle.std.proofs.lemmas.Result.{IfOk-weaker}
use Rattle.solve.proofs.narrow.narrowest.Goals as goal

pub returns : goal.returns
returns c = IfOk-weaker c.narrowest_of.result _ _ (λ found h. (c.in_ok-asked.asked, c.in_ok-asked.ensures.asks, h)) c.narrowest_of.ensures
