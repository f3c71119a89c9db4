use Rattle.std.proofs.Common.{List, ap, subst}
use Rattle.rule_file.specs.declared.tree.Line.{Line}
use Rattle.rule_source.specs.Formulas.{AreHelpers}
use Rattle.rule_source.proofs.HelpersLaws.{each_read}
use Rattle.rule_source.proofs.source.source_of.Goals as goal

pub invariant_of-result-clause-each : goal.invariant_of-result-clause-each
invariant_of-result-clause-each c =
    each_read c.in_ok-bits.bits c.in_ok-file.file.lines.items c.in_ok-reading.reading.helpers.items c.in_ok-rule.helpers.items
    (subst (λ (ls : List Line). AreHelpers c.in_ok-bits.bits ls c.in_ok-reading.reading.helpers.items) c.deref-2.ensures.value c.in_ok-reading.ensures.helpers)
    (ap (λ v. v.items) c.in_ok-rule.ensures.helpers)
