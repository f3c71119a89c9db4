use Rattle.export.proofs.KeptVerdictLaws.{outcome_of, are_as_long}
use Rattle.export.proofs.kept_outcome.kept_outcome.Goals as goal

pub returns-in-Ok-judge_named-clause-says : goal.returns-in-Ok-judge_named-clause-says
returns-in-Ok-judge_named-clause-says c = outcome_of c.args.text.now c.args.name.now c.args.most c.args.words c.in-Some.memory c.in-Some.ensures.0 c.in-Some.ensures.1 c.in-Ok.text.now c.in-Ok-from_utf8.name.now c.in-Ok.ensures.cases.0 c.in-Ok-from_utf8.ensures.cases.0 c.in-Ok-judge_named.answer c.in-Ok-judge_named.ensures

pub returns-in-Ok-judge_named-clause-long : goal.returns-in-Ok-judge_named-clause-long
returns-in-Ok-judge_named-clause-long c = are_as_long c.in-Ok.text.now c.in-Ok-from_utf8.name.now c.in-Some.memory c.in-Ok-judge_named.answer c.in-Ok-judge_named.ensures
