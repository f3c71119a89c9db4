use Rattle.std.proofs.Common.{List, is_ok, ap, sym, subst, arith}
use Rattle.std.proofs.ResultArms.{chosen}
use Rattle.std.proofs.lemmas.Grind.{common_steps}
use Rattle.rule_file.specs.declared.tree.Line.{Line}
use Rattle.rule_file.specs.Kinds.{HaveWords}
use Rattle.rule_file.proofs.WrittenLaws.{written_more}
use Rattle.rule_file.proofs.KindsLaws.{lines_more}
use Rattle.rule_file.proofs.SectionsLaws.{section_more, sections_more}
use Rattle.rule_file.proofs.parse.lines.Goals as goal

pub loop-rest-preserved : goal.loop-rest-preserved
loop-rest-preserved c =
    let pushed = chosen _ _ _ _ c.push.ensures.items (ap is_ok c.in_ok-push.was) in
    record {
      words = grind (arith, common_steps, written_more);
      kinds = subst (λ (ls : List Line). HaveWords ls) (sym pushed) (lines_more c.loop-rest.all.items c.in_ok-read.read c.loop-rest.invariant.kinds c.in_ok-read.ensures.kind);
      sections = sections_more c.loop-rest.all.items _ c.in_ok-read.read c.loop-rest.section pushed c.loop-rest.invariant.section c.loop-rest.invariant.sections c.in_ok-read.ensures.stands;
      section = section_more c.loop-rest.all.items _ c.in_ok-read.read c.loop-rest.section c.section_behind-section.result pushed c.loop-rest.invariant.section c.section_behind-section.ensures;
    }
