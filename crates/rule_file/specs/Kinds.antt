-- What the words of a tree are.
use Rattle.std.specs.Prelude.{◌≡◌, List, All}
use Rattle.rule_file.specs.declared.token.Kind.TheVariants as kind
use Rattle.rule_file.specs.declared.tree.Term.{Term}
use Rattle.rule_file.specs.declared.tree.Term.TheVariants as term
use Rattle.rule_file.specs.declared.tree.Pattern.{Pattern}
use Rattle.rule_file.specs.declared.tree.Statement.{Statement}
use Rattle.rule_file.specs.declared.tree.Statement.TheVariants as statement
use Rattle.rule_file.specs.declared.tree.Line.{Line}

-- a word of a pattern is of the kind that its variant says
abbrev pub IsTerm : Term → Type 0
IsTerm (term.Any t) = t.kind ≡ kind.Star
IsTerm (term.Module t) = t.kind ≡ kind.Module
IsTerm (term.Missing t) = t.kind ≡ kind.Missing
IsTerm (term.Set t) = t.kind ≡ kind.Name
IsTerm (term.Clear s t) = (s.kind ≡ kind.Not) × (t.kind ≡ kind.Name)

-- three parts of such words, with two bars between them
pub record IsPattern (p : Pattern) : Type 0 where
  pub left : All IsTerm p.left.items
  pub first : p.first.kind ≡ kind.Bar
  pub own : All IsTerm p.own.items
  pub second : p.second.kind ≡ kind.Bar
  pub right : All IsTerm p.right.items

-- a statement begins with the word that its variant says; a line below a heading begins with no word of its own, and one below `helpers:` with a name
abbrev pub HasWord : Statement → Type 0
HasWord (statement.Allowed h) = h.word.kind ≡ kind.Allowed
HasWord (statement.Limit h f) = h.word.kind ≡ kind.Allowed
HasWord (statement.Pattern p) = Unit {0}
HasWord (statement.Table h) = h.word.kind ≡ kind.Table
HasWord (statement.Line p a e) = Unit {0}
HasWord (statement.Start h f) = h.word.kind ≡ kind.Start
HasWord (statement.Never n p) = n.word.kind ≡ kind.Never
HasWord (statement.Claim n f) = n.word.kind ≡ kind.Claim
HasWord (statement.Kept n f) = n.word.kind ≡ kind.Kept
HasWord (statement.Helpers h) = h.word.kind ≡ kind.Helpers
HasWord (statement.Helper l f) = l.name.kind ≡ kind.Name
HasWord (statement.Row h ms) = h.word.kind ≡ kind.Row

abbrev pub HaveWords : List Line → Type 0
HaveWords ls = All (λ l. HasWord l.statement) ls
