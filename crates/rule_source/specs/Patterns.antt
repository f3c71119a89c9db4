-- What the patterns of a file ask.
use Rattle.std.specs.Prelude.{ℕ, true, false, Option, Some, None, List, ◌++◌, map}
use Rattle.std.specs.List.{filter_map}
use Rattle.rows.specs.declared.rule.Literal.{Literal}
use Rattle.rows.specs.declared.rule.Side.{Side}
use Rattle.rows.specs.declared.rule.Side.TheVariants.{Left, Own, Right}
use Rattle.rows.specs.declared.rule.Asked.TheVariants.{There, Bit}
use Rattle.rule_file.specs.Claims.{bytes_of}
use Rattle.rule_file.specs.declared.token.Token.{Token}
use Rattle.rule_file.specs.declared.tree.Line.{Line}
use Rattle.rule_file.specs.declared.tree.Pattern.{Pattern}
use Rattle.rule_file.specs.declared.tree.Statement.{Statement}
use Rattle.rule_file.specs.declared.tree.Statement.TheVariants as statement
use Rattle.rule_file.specs.declared.tree.Term.{Term}
use Rattle.rule_file.specs.declared.tree.Term.TheVariants as term
use Rattle.rule_source.specs.declared.bits.Bits.{Bits}
use Rattle.rule_source.specs.Names.{number_of}

-- the number of the bit whose name a token is
abbrev pub number : Bits → Token → ℕ
number b t = number_of (map (λ n. n.now) b.names.items) (bytes_of b.text.now t)

-- what a word asks of the place on one side; `*` asks nothing
abbrev pub literal_of : Bits → Side → Term → Option Literal
literal_of b d (term.Any t) = None
literal_of b d (term.Module t) = Some (record { side = d; asked = There; set = true })
literal_of b d (term.Missing t) = Some (record { side = d; asked = There; set = false })
literal_of b d (term.Set t) = Some (record { side = d; asked = Bit (number b t); set = true })
literal_of b d (term.Clear s t) = Some (record { side = d; asked = Bit (number b t); set = false })

abbrev pub part_literals : Bits → Side → List Term → List Literal
part_literals b d ts = filter_map (literal_of b d) ts

-- what a pattern asks, from its left part to its right
abbrev pub literals_in : Bits → Pattern → List Literal
literals_in b p = part_literals b Left p.left.items ++ part_literals b Own p.own.items ++ part_literals b Right p.right.items

abbrev pub allowed_by : Bits → Statement → Option (List Literal)
allowed_by b (statement.Pattern p) = Some (literals_in b p)
allowed_by b _ = None

-- the patterns of allowed rows, in their order
abbrev pub allowed_in : Bits → List Line → List (List Literal)
allowed_in b ls = filter_map (λ l. allowed_by b l.statement) ls
