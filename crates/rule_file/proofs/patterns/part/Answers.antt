use Rattle.std.proofs.Common.{All, List, is_ok, ap, sym, subst, arith}
use Rattle.std.proofs.ResultArms.{chosen}
use Rattle.std.proofs.lemmas.Grind.{common_steps}
use Rattle.rule_file.specs.declared.tree.Term.{Term}
use Rattle.rule_file.specs.Kinds.{IsTerm}
use Rattle.rule_file.proofs.WrittenLaws.{written_more}
use Rattle.rule_file.proofs.KindsLaws.{terms_more}
use Rattle.rule_file.proofs.patterns.part.Goals as goal

pub loop-all-preserved : goal.loop-all-preserved
loop-all-preserved c =
    let pushed = chosen _ _ _ _ c.push.ensures.items (ap is_ok c.in_ok-push.was) in
    let kind : IsTerm c.in-Some.read = rw c.in-Some.is at c.in_ok-read.ensures.kind in
    record {
      words = grind (arith, common_steps, written_more);
      terms = subst (λ (ts : List Term). All IsTerm ts) (sym pushed) (terms_more c.loop-all.all.items c.in-Some.read c.loop-all.invariant.terms kind);
    }
