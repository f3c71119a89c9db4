use Rattle.std.proofs.lemmas.Result.{IfOk-weaker}
use Rattle.rule_report.proofs.why.why_of.Goals as goal

pub returns : goal.returns
returns c =
    IfOk-weaker c.told.result _ _
    (λ words e. record {
      keeping = c.in_ok-keeping.keeping;
      is_with = c.in_ok-keeping.ensures;
      answer = c.in_ok-answer.answer;
      true_of = c.in_ok-answer.ensures;
      words_are = e;
    }) c.told.ensures
