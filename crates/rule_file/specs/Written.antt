-- The tokens of a tree, written one after the other.
use Rattle.std.specs.Prelude.{Option, Some, None, List, [], ◌∷◌, ◌++◌}
use Rattle.std.specs.List.{flat_map}
use Rattle.rule_file.specs.declared.token.Token.{Token}
use Rattle.rule_file.specs.declared.tree.Term.{Term}
use Rattle.rule_file.specs.declared.tree.Term.TheVariants as term
use Rattle.rule_file.specs.declared.tree.Pattern.{Pattern}
use Rattle.rule_file.specs.declared.tree.Source.{Source}
use Rattle.rule_file.specs.declared.tree.Source.TheVariants as source
use Rattle.rule_file.specs.declared.tree.Change.{Change}
use Rattle.rule_file.specs.declared.tree.Change.TheVariants as change
use Rattle.rule_file.specs.declared.tree.Motion.{Motion}
use Rattle.rule_file.specs.declared.tree.Motion.TheVariants.{Moves, Waits}
use Rattle.rule_file.specs.declared.tree.Effects.{Effects}
use Rattle.rule_file.specs.declared.tree.Joined.{Joined}
use Rattle.rule_file.specs.declared.tree.Module.{Module}
use Rattle.rule_file.specs.declared.tree.Module.TheVariants as module_
use Rattle.rule_file.specs.declared.tree.Heading.{Heading}
use Rattle.rule_file.specs.declared.tree.Named.{Named}
use Rattle.rule_file.specs.declared.tree.Label.{Label}
use Rattle.rule_file.specs.declared.tree.Statement.{Statement}
use Rattle.rule_file.specs.declared.tree.Statement.TheVariants as statement
use Rattle.rule_file.specs.declared.tree.Line.{Line}
use Rattle.rule_file.specs.declared.tree.RingLine.{RingLine}
use Rattle.rule_file.specs.declared.tree.File.{File}

abbrev pub term_tokens : Term → List Token
term_tokens (term.Any t) = t ∷ []
term_tokens (term.Module t) = t ∷ []
term_tokens (term.Missing t) = t ∷ []
term_tokens (term.Set t) = t ∷ []
term_tokens (term.Clear s t) = s ∷ t ∷ []

abbrev pub pattern_tokens : Pattern → List Token
pattern_tokens p = flat_map term_tokens p.left.items ++ p.first ∷ (flat_map term_tokens p.own.items ++ p.second ∷ flat_map term_tokens p.right.items)

abbrev pub source_tokens : Source → List Token
source_tokens (source.Own t) = t ∷ []
source_tokens (source.Left s d t) = s ∷ d ∷ t ∷ []
source_tokens (source.Right s d t) = s ∷ d ∷ t ∷ []

abbrev pub change_tokens : Change → List Token
change_tokens (change.Set t) = t ∷ []
change_tokens (change.Clear s t) = s ∷ t ∷ []
change_tokens (change.AsWas t e s) = t ∷ e ∷ source_tokens s

abbrev pub motion_token : Motion → Token
motion_token (Moves t) = t
motion_token (Waits t) = t

abbrev pub effects_tokens : Effects → List Token
effects_tokens e = flat_map change_tokens e.before.items ++ motion_token e.motion ∷ flat_map change_tokens e.after.items

abbrev pub joined_tokens : Joined → List Token
joined_tokens j = j.plus ∷ j.name ∷ []

abbrev pub module_tokens : Module → List Token
module_tokens (module_.Bare t) = t ∷ []
module_tokens (module_.Bits t js) = t ∷ flat_map joined_tokens js.items

abbrev pub heading_tokens : Heading → List Token
heading_tokens h = h.word ∷ h.colon ∷ []

abbrev pub named_tokens : Named → List Token
named_tokens n = n.word ∷ n.name ∷ n.colon ∷ []

abbrev pub label_tokens : Label → List Token
label_tokens l = l.name ∷ l.colon ∷ []

abbrev pub statement_tokens : Statement → List Token
statement_tokens (statement.Allowed h) = heading_tokens h
statement_tokens (statement.Limit h f) = heading_tokens h ++ f ∷ []
statement_tokens (statement.Pattern p) = pattern_tokens p
statement_tokens (statement.Table h) = heading_tokens h
statement_tokens (statement.Line p a e) = pattern_tokens p ++ a ∷ effects_tokens e
statement_tokens (statement.Start h f) = heading_tokens h ++ f ∷ []
statement_tokens (statement.Never n p) = named_tokens n ++ pattern_tokens p
statement_tokens (statement.Claim n f) = named_tokens n ++ f ∷ []
statement_tokens (statement.Kept n f) = named_tokens n ++ f ∷ []
statement_tokens (statement.Helpers h) = heading_tokens h
statement_tokens (statement.Helper l f) = label_tokens l ++ f ∷ []
statement_tokens (statement.Row h ms) = heading_tokens h ++ flat_map module_tokens ms.items

abbrev pub line_tokens : Line → List Token
line_tokens l = statement_tokens l.statement ++ l.ends.items

-- the line `ring:` of a file that has one
abbrev pub ring_tokens : Option RingLine → List Token
ring_tokens None = []
ring_tokens (Some l) = heading_tokens l.heading ++ l.ends.items

abbrev pub file_tokens : File → List Token
file_tokens f = f.front.items ++ (heading_tokens f.heading ++ (f.bits.items ++ (f.ends.items ++ (ring_tokens f.ring ++ flat_map line_tokens f.lines.items))))
