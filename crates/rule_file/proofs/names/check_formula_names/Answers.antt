use Rattle.std.proofs.Common.{◌≢◌, All, List, codes, subst, arith}
use Rattle.std.proofs.lemmas.List.{take_all}
use Rattle.rule_file.specs.declared.token.Token.{Token}
use Rattle.rule_file.specs.Claims.{bytes_of}
use Rattle.rule_file.proofs.NamesLaws.{apart_more}
use Rattle.rule_file.proofs.names.check_formula_names.Goals as goal

pub loop-name-preserved : goal.loop-name-preserved
loop-name-preserved c = apart_more c.args.text.now c.args.names.now (codes "last") c.loop-name.name-index _ (omega arith) c.loop-name.invariant c.in_ok-check_formula_name.ensures

pub returns : goal.returns
returns c =
    subst (λ (ts : List Token). All (λ t. bytes_of c.args.text.now t ≢ codes "last") ts)
    (take_all c.loop-name.name-index c.args.names.now (omega arith)) c.loop-name.invariant
