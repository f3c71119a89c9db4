-- What a rule file claims to be kept by the steps of its rule.
use Rattle.std.specs.Prelude.{◌≡◌, ◌<◌, Option, Some, None, List, IfSome, length}
use Rattle.std.specs.List.{filter_map}
use Rattle.formulas.specs.declared.formula.Formula.{Formula}
use Rattle.rule_file.specs.Claims.{bytes_of, claim_name}
use Rattle.rule_file.specs.declared.token.Token.{Token}
use Rattle.rule_file.specs.declared.tree.Line.{Line}
use Rattle.rule_file.specs.declared.tree.Statement.{Statement}
use Rattle.rule_file.specs.declared.tree.Statement.TheVariants as statement
use Rattle.rule_source.specs.declared.bits.Bits.{Bits}
use Rattle.rule_source.specs.declared.formula.About.TheVariants.{Row}
use Rattle.rule_source.specs.declared.kept.Keep.{Keep}
use Rattle.rule_source.specs.declared.source.Source.{Source}
use Rattle.rule_source.specs.Formulas.{FormulaOf}

-- the statement, if it claims that something is kept
abbrev pub keeping : Statement → Option Statement
keeping (statement.Kept n f) = Some (statement.Kept n f)
keeping _ = None

-- the statements that do, in their order
abbrev pub kept_in : List Line → List Statement
kept_in ls = filter_map (λ l. keeping l.statement) ls

-- the formula of a statement that claims so
abbrev pub kept_of : Statement → Option Token
kept_of (statement.Kept n t) = Some t
kept_of _ = None

-- the formula, which speaks of a row alone, is what the statement claims to be kept
abbrev pub IsKept : Bits → Option Token → Formula → Type 0
IsKept b (Some t) f = FormulaOf b Row t f
IsKept b None f = ⊥

-- it is named as its statement says, and claims of the steps of the file's rule, from where the file says that a run may begin, what the statement does; the file says so at least once
pub record Keeps (s : Source) (k : Keep) : Type 0 where
  pub name : IfSome (claim_name k.statement.now) (λ t. k.name.now ≡ bytes_of s.bits.text.now t)
  pub begun : 0 < length s.starts.items
  pub of_rule : k.keeping.rule.now ≡ s.rule
  pub of_start : k.keeping.start.now ≡ s.starts.items
  pub claimed : IsKept s.bits (kept_of k.statement.now) k.keeping.claim.value
