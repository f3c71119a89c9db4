use Rattle.export.proofs.StrongerVerdictLaws.{outcome_of}
use Rattle.export.proofs.stronger_outcome.stronger_outcome.Goals as goal

pub returns-in-Ok-strengthen_named : goal.returns-in-Ok-strengthen_named
returns-in-Ok-strengthen_named c = outcome_of c.args.text.now c.args.name.now c.args.most c.args.words c.in-Some.memory c.in-Some.ensures.0 c.in-Some.ensures.1 c.in-Ok.text.now c.in-Ok-from_utf8.name.now c.in-Ok.ensures.cases.0 c.in-Ok-from_utf8.ensures.cases.0 c.in-Ok-strengthen_named.answer c.in-Ok-strengthen_named.ensures
