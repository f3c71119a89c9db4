use Rattle.std.proofs.Common.{◌≢◌, All, List, subst, arith}
use Rattle.std.proofs.lemmas.List.{take_all}
use Rattle.std.proofs.lemmas.Bool.Decides.{Decides-eqb}
use Rattle.std.proofs.lemmas.Slice.Eq.{slice_eq-Decides}
use Rattle.rule_file.specs.declared.token.Token.{Token}
use Rattle.rule_file.specs.Claims.{bytes_of}
use Rattle.rule_file.proofs.NamesLaws.{differs, apart_more}
use Rattle.rule_file.proofs.names.stands_in.Goals as goal

pub loop-other-preserved : goal.loop-other-preserved
loop-other-preserved c =
    apart_more c.args.text.now c.args.others.now (bytes_of c.args.text.now c.args.name.now) c.loop-other.other-index _ (omega arith) c.loop-other.invariant
    (differs c.bytes.result.now c.bytes-in-loop-other.result.now _ _ c.eq.result c.bytes.ensures c.bytes-in-loop-other.ensures
    (slice_eq-Decides Decides-eqb _ _ _ c.eq.ensures) c.if-eq.false)

pub returns : goal.returns
returns c =
    subst (λ (ts : List Token). All (λ o. bytes_of c.args.text.now o ≢ bytes_of c.args.text.now c.args.name.now) ts)
    (take_all c.loop-other.other-index c.args.others.now (omega arith)) c.loop-other.invariant
