use Rattle.std.proofs.Common.{List, ℕ}
use Rattle.std.proofs.lemmas.Result.{IfOk-weaker}
use Rattle.rule_check.specs.declared.memory.Memory.{Memory}
use Rattle.rule_source.specs.declared.source.Source.{Source}
use Rattle.kept_source.specs.Named.{Named, OfSource}
use Rattle.rule_source.specs.Reading.{IsRead}
use Rattle.kept_source.specs.declared.in_file.InFile.{InFile}
use Rattle.kept_source.specs.declared.in_file.InFile.TheVariants as answer
use Rattle.kept_source.proofs.judge_named.judge_text.Goals as goal

of_text : (text name : List ℕ) (y : Memory) (s : Source) → IsRead text s → (a : InFile) → OfSource s name y a → Named text name y a
of_text text name y s read answer.NotRead h = tt
of_text text name y s read answer.NoSuchClaim h = (s, read, h)
of_text text name y s read (answer.Judged a) h = (s, read, h)

pub returns : goal.returns
returns c = IfOk-weaker c.judge_in.result _ _ (of_text c.args.text.now c.args.name.now c.args.memory c.in_ok-source.source c.in_ok-source.ensures) c.judge_in.ensures
