-- The names that a rule file declares.
use Rattle.std.specs.Prelude.{ℕ, ◌≡◌, ◌≢◌, ◌≤◌, Option, Some, None, List, All, codes, length, slice_range}
use Rattle.std.specs.List.{AllPairs, filter_map}
use Rattle.rule_file.specs.declared.token.Token.{Token}
use Rattle.rule_file.specs.declared.token.Kind.TheVariants.{Name}
use Rattle.rule_file.specs.declared.tree.Statement.{Statement}
use Rattle.rule_file.specs.declared.tree.Statement.TheVariants as statement
use Rattle.rule_file.specs.declared.tree.Line.{Line}

-- the name of a claim, or of a helper
abbrev pub claim_name : Statement → Option Token
claim_name (statement.Never n p) = Some n.name
claim_name (statement.Claim n f) = Some n.name
claim_name (statement.Kept n f) = Some n.name
claim_name (statement.Helper l f) = Some l.name
claim_name _ = None

abbrev pub claim_names : List Line → List Token
claim_names ls = filter_map (λ l. claim_name l.statement) ls

-- the bytes of a token
abbrev pub bytes_of : List ℕ → Token → List ℕ
bytes_of text t = slice_range text t.span.start t.span.end

-- no name is given twice
abbrev pub Differ : List ℕ → List Token → Type 0
Differ text names = AllPairs (λ a b. bytes_of text a ≢ bytes_of text b) names

-- one to five names that differ, none of which is the name of the row's last place
pub record AreBits (text : List ℕ) (bits : List Token) : Type 0 where
  pub some : 1 ≤ length bits
  pub few : length bits ≤ 5
  pub names : All (λ t. t.kind ≡ Name) bits
  pub bits_differ : Differ text bits
  pub not_last : All (λ t. bytes_of text t ≢ codes "last") bits
