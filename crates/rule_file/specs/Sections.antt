-- The sections of a rule file: which lines stand below which heading.
use Rattle.std.specs.Prelude.{◌≡◌, List, [], ◌∷◌}
use Rattle.rule_file.specs.declared.section.Section.{Section}
use Rattle.rule_file.specs.declared.section.Section.TheVariants as section
use Rattle.rule_file.specs.declared.tree.Statement.{Statement}
use Rattle.rule_file.specs.declared.tree.Statement.TheVariants as statement
use Rattle.rule_file.specs.declared.tree.Line.{Line}

-- what the lines behind a statement are
abbrev pub section_behind : Section → Statement → Section
section_behind s (statement.Allowed h) = section.Allowed
section_behind s (statement.Table h) = section.Table
section_behind s (statement.Helpers h) = section.Helpers
section_behind s _ = s

-- a pattern alone stands below `allowed:`, a line of the table below `table:` and a helper below `helpers:`; other statements stand anywhere
abbrev pub StandsIn : Section → Statement → Type 0
StandsIn s (statement.Pattern p) = s ≡ section.Allowed
StandsIn s (statement.Line p a e) = s ≡ section.Table
StandsIn s (statement.Helper l f) = s ≡ section.Helpers
StandsIn s _ = Unit {0}

-- each of the lines stands where it may, the first of them in this section
abbrev pub StandFrom : Section → List Line → Type 0
StandFrom s [] = Unit {0}
StandFrom s (l ∷ ls) = StandsIn s l.statement × StandFrom (section_behind s l.statement) ls

-- what the lines behind these are
abbrev pub section_after : Section → List Line → Section
section_after s [] = s
section_after s (l ∷ ls) = section_after (section_behind s l.statement) ls

-- no line stands before the first heading that may not
abbrev pub HaveSections : List Line → Type 0
HaveSections ls = StandFrom section.Outside ls
