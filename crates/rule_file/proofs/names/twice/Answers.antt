use Rattle.std.proofs.Common.{List, subst, arith}
use Rattle.std.proofs.lemmas.List.{take_all}
use Rattle.rule_file.specs.declared.token.Token.{Token}
use Rattle.rule_file.specs.Claims.{Differ}
use Rattle.rule_file.proofs.NamesLaws.{differ_more}
use Rattle.rule_file.proofs.names.twice.Goals as goal

pub loop-i-preserved : goal.loop-i-preserved
loop-i-preserved c = differ_more c.args.text.now c.args.names.now c.loop-i.i _ (omega arith) c.loop-i.invariant c.if-stands_in.ensures

pub returns : goal.returns
returns c =
    subst (λ (ts : List Token). Differ c.args.text.now ts) (take_all c.loop-i.i c.args.names.now (omega arith)) c.loop-i.invariant
