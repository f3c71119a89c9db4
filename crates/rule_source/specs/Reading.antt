-- What is read of a rule file, as it is promised of reading it.
use Rattle.std.specs.Prelude.{◌≡◌, ℕ, List, All, length, map}
use Rattle.rules.specs.declared.rule.Rule.{Rule}
use Rattle.rule_file.specs.Claims.{bytes_of}
use Rattle.rule_file.specs.Covering.{Covers}
use Rattle.rule_file.specs.Written.{file_tokens}
use Rattle.rule_file.specs.declared.tree.Line.{Line}
use Rattle.rule_source.specs.Asking.{Asks}
use Rattle.rule_source.specs.Claimed.{claims_in}
use Rattle.rule_source.specs.Effects.{AllNameOnce, table_in}
use Rattle.rule_source.specs.Formulas.{AreHelpers, AreLimits, AreStarts}
use Rattle.rule_source.specs.Given.{AreRows}
use Rattle.rule_source.specs.Kept.{Keeps, kept_in}
use Rattle.rule_source.specs.Layouts.{layout_of}
use Rattle.rule_source.specs.Patterns.{allowed_in}
use Rattle.rule_source.specs.declared.bits.Bits.{Bits}
use Rattle.rule_source.specs.declared.claimed.Claim.{Claim}
use Rattle.rule_source.specs.declared.kept.Keep.{Keep}
use Rattle.rule_source.specs.declared.source.Source.{Source}

-- the statements make this rule
pub record IsRuleOf (b : Bits) (ls : List Line) (r : Rule) : Type 0 where
  pub bits : r.bits ≡ length b.names.items
  pub layout : r.layout ≡ b.layout
  pub patterns : r.allowed.items ≡ allowed_in b ls
  pub limits : AreLimits b ls r.limits.items
  pub lines : r.table.items ≡ table_in b ls

-- the text of a file is read as this: each statement of the text is in the file, its modules lie in a ring exactly if it has the line `ring:`, no line of its table names a bit twice, and the rule, how a run may begin, what may help to keep a claim and the given rows are what the statements say
pub record IsRead (text : List ℕ) (s : Source) : Type 0 where
  pub file : Covers text 0 (file_tokens s.file) (length text)
  pub text_is : s.bits.text.now ≡ text
  pub names : map (λ n. n.now) s.bits.names.items ≡ map (λ t. bytes_of text t) s.file.bits.items
  pub layout : s.bits.layout ≡ layout_of s.file.ring
  pub rule : IsRuleOf s.bits s.file.lines.items s.rule
  pub starts : AreStarts s.bits s.file.lines.items s.starts.items
  pub helpers : AreHelpers s.bits s.file.lines.items s.helpers.items
  pub once : AllNameOnce s.bits s.file.lines.items
  pub rows : AreRows s.bits s.file.lines.items s.rows.items

-- these are the claims of the file, in their order
pub record AreClaims (s : Source) (claims : List Claim) : Type 0 where
  pub statements : map (λ c. c.statement.now) claims ≡ claims_in s.file.lines.items
  pub each : All (Asks s) claims

-- and this is what the file claims to be kept
pub record AreKeeps (s : Source) (keeps : List Keep) : Type 0 where
  pub statements : map (λ k. k.statement.now) keeps ≡ kept_in s.file.lines.items
  pub each : All (Keeps s) keeps
