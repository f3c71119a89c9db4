-- What a rule file claims of its rule.
use Rattle.std.specs.Prelude.{Option, Some, None, List}
use Rattle.std.specs.List.{filter_map}
use Rattle.rule_file.specs.declared.tree.Line.{Line}
use Rattle.rule_file.specs.declared.tree.Statement.{Statement}
use Rattle.rule_file.specs.declared.tree.Statement.TheVariants as statement
use Rattle.rule_source.specs.declared.claimed.Put.{Put}
use Rattle.rule_source.specs.declared.claimed.Put.TheVariants as put

-- how a statement puts a claim
abbrev pub put_of : Statement → Option Put
put_of (statement.Never n p) = Some put.Never
put_of (statement.Claim n f) = Some put.Claim
put_of _ = None

-- the statement, if it claims something
abbrev pub claiming : Statement → Option Statement
claiming (statement.Never n p) = Some (statement.Never n p)
claiming (statement.Claim n f) = Some (statement.Claim n f)
claiming _ = None

-- the statements that claim something, in their order
abbrev pub claims_in : List Line → List Statement
claims_in ls = filter_map (λ l. claiming l.statement) ls
