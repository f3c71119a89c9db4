use Rattle.std.proofs.Common.{◌≡◌, ◌++◌, length}
use Rattle.std.specs.List.{flat_map}
use Rattle.rule_file.specs.Kinds.{HaveWords}
use Rattle.rule_file.specs.Sections.{HaveSections, section_after}
use Rattle.rule_file.specs.declared.section.Section.TheVariants.{Outside}
use Rattle.rule_file.specs.Written.{line_tokens}
use Rattle.rule_file.proofs.parse.lines.Given as goal

abbrev pub invariant-loop-rest : goal.invariant-loop-rest
invariant-loop-rest l = record { words : flat_map line_tokens l.all.items ++ l.rest ≡ l.tokens; kinds : HaveWords l.all.items; sections : HaveSections l.all.items; section : l.section ≡ section_after Outside l.all.items }

abbrev pub decreases-loop-rest : goal.decreases-loop-rest
decreases-loop-rest l = length l.rest
