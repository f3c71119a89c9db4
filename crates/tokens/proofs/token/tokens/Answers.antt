use Rattle.std.proofs.Common.{◌+◌, List, Some, None, refl, inr, arith, rules, is_ok, ap, sym, subst}
use Rattle.std.proofs.ResultArms.{chosen}
use Rattle.tokens.specs.declared.token.Token.{Token}
use Rattle.tokens.specs.Covering.{Covers}
use Rattle.tokens.proofs.GapsLaws.{gap_of}
use Rattle.tokens.proofs.CoveringLaws.{covers_push, spells_of}
use Rattle.tokens.proofs.TokensLaws.{Scanned, scan_init, scan_step, scan_fails, scan_done, front_of, gap_of_rest, within_rest}
use Rattle.tokens.proofs.token.tokens.Goals as goal

pub loop-at-init : goal.loop-at-init
loop-at-init c = record {
  within = c.gap-at.ensures.within;
  covers = search rules;
  scanned = scan_init c.args.text.now c.new-all.result.items c.gap-at.result c.new-all.ensures.items c.gap-at.ensures.count;
}

pub loop-at-preserved : goal.loop-at-preserved
loop-at-preserved c =
    let pushed = chosen _ _ _ _ c.push.ensures.items (ap is_ok c.in_ok-push.was) in
    record {
      within = search rules;
      covers = subst (λ (ts : List Token). Covers c.args.text.now 0 ts (c.loop-at.at + c.in-Some.len + c.gap.result)) (sym pushed)
          (covers_push c.args.text.now 0 c.loop-at.all.items _ c.gap.result c.loop-at.invariant.covers (omega (arith, c.in-Some.ensures.within)) (spells_of c.in-Some.kind c.args.text.now c.loop-at.at c.in-Some.len c.in-Some.ensures.spells) (search rules) (gap_of c.args.text.now (c.loop-at.at + c.in-Some.len) c.gap.result c.gap.ensures.gap));
      scanned = subst (λ (ts : List Token). Scanned c.args.text.now ts (c.loop-at.at + c.in-Some.len + c.gap.result)) (sym pushed)
          (scan_step c.args.text.now c.loop-at.all.items c.loop-at.at c.in-Some.len c.gap.result _ c.loop-at.invariant.scanned (front_of c.args.text.now c.loop-at.at (Some (c.in-Some.kind, c.in-Some.len)) c.in-Some.ensures.front) c.in-Some.ensures.within.0 (within_rest c.args.text.now c.loop-at.at c.in-Some.len c.in-Some.ensures.within.1 c.loop-at-test.true) refl refl (gap_of_rest c.args.text.now (c.loop-at.at + c.in-Some.len) c.gap.result c.gap.ensures.count));
    }

pub returns-in_default-clause-fails : goal.returns-in_default-clause-fails
returns-in_default-clause-fails c = inr (scan_fails c.args.text.now c.loop-at.all.items c.loop-at.at c.loop-at.invariant.scanned (front_of c.args.text.now c.loop-at.at None c.in_default.ensures.front) c.loop-at-test.true)

pub returns-clause-words : goal.returns-clause-words
returns-clause-words c = scan_done c.args.text.now c.loop-at.all.items c.loop-at.at c.loop-at.invariant.scanned c.loop-at-test.false
