-- What the lines of a file that may help to keep a claim are called.
use Rattle.std.specs.Prelude.{ℕ, Option, Some, None, List, map}
use Rattle.std.specs.List.{filter_map}
use Rattle.rule_file.specs.Claims.{bytes_of}
use Rattle.rule_file.specs.declared.token.Token.{Token}
use Rattle.rule_file.specs.declared.tree.Line.{Line}
use Rattle.rule_file.specs.declared.tree.Statement.{Statement}
use Rattle.rule_file.specs.declared.tree.Statement.TheVariants as statement
use Rattle.rule_source.specs.declared.source.Source.{Source}

-- the name of such a line
abbrev pub helper_name : Statement → Option Token
helper_name (statement.Helper l t) = Some l.name
helper_name _ = None

abbrev pub named_in : List Line → List Token
named_in ls = filter_map (λ l. helper_name l.statement) ls

-- the words of these names, in their order
abbrev pub helper_names : Source → List (List ℕ)
helper_names s = map (λ t. bytes_of s.bits.text.now t) (named_in s.file.lines.items)
