use Rattle.std.proofs.Common.{◌+◌, List, arith, rules, is_ok, ap, sym, subst}
use Rattle.std.proofs.ResultArms.{chosen}
use Rattle.rule_file.specs.declared.token.Token.{Token}
use Rattle.rule_file.specs.Covering.{Covers}
use Rattle.rule_file.proofs.GapsLaws.{gap_of}
use Rattle.rule_file.proofs.CoveringLaws.{covers_push}
use Rattle.rule_file.proofs.token.tokens.Goals as goal

pub loop-at-preserved : goal.loop-at-preserved
loop-at-preserved c =
    let pushed = chosen _ _ _ _ c.push.ensures.items (ap is_ok c.in_ok-push.was) in
    record {
      within = search rules;
      covers = subst (λ (ts : List Token). Covers c.args.text.now 0 ts (c.loop-at.at + c.front-kind.result.1 + c.gap.result)) (sym pushed)
          (covers_push c.args.text.now 0 c.loop-at.all.items _ c.gap.result c.loop-at.invariant.covers (omega (arith, c.front-kind.ensures)) (search rules) (gap_of c.args.text.now (c.loop-at.at + c.front-kind.result.1) c.gap.result c.gap.ensures.gap));
    }
