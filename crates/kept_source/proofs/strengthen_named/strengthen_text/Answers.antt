use Rattle.std.proofs.Common.{List, ℕ}
use Rattle.std.proofs.lemmas.Result.{IfOk-weaker}
use Rattle.rule_check.specs.declared.memory.Memory.{Memory}
use Rattle.rule_source.specs.Reading.{IsRead}
use Rattle.rule_source.specs.declared.source.Source.{Source}
use Rattle.kept_source.specs.Strengthened.{OfSource, Strengthened}
use Rattle.kept_source.specs.declared.helped.Helped.{Helped}
use Rattle.kept_source.specs.declared.helped.Helped.TheVariants as answer
use Rattle.kept_source.proofs.strengthen_named.strengthen_text.Goals as goal

of_text : (text name : List ℕ) (y : Memory) (s : Source) → IsRead text s → (a : Helped) → OfSource s name y a → Strengthened text name y a
of_text text name y s read answer.NotRead h = tt
of_text text name y s read answer.NoSuchClaim h = (s, read, h)
of_text text name y s read (answer.Answered a) h = (s, read, h)

pub returns : goal.returns
returns c = IfOk-weaker c.strengthen_in.result _ _ (of_text c.args.text.now c.args.name.now c.args.memory c.in_ok-source.source c.in_ok-source.ensures) c.strengthen_in.ensures
