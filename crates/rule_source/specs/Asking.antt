-- What a claim of a rule file asks of its rule.
use Rattle.std.specs.Prelude.{◌≡◌, Some, IfSome}
use Rattle.rule_file.specs.Claims.{bytes_of, claim_name}
use Rattle.rule_file.specs.declared.tree.Statement.{Statement}
use Rattle.rule_file.specs.declared.tree.Statement.TheVariants as statement
use Rattle.rules.specs.declared.property.Property.{Property}
use Rattle.rules.specs.declared.property.Property.TheVariants.{Met, Fails}
use Rattle.rule_source.specs.declared.bits.Bits.{Bits}
use Rattle.rule_source.specs.declared.claimed.Claim.{Claim}
use Rattle.rule_source.specs.declared.formula.About.TheVariants.{Step}
use Rattle.rule_source.specs.declared.source.Source.{Source}
use Rattle.rule_source.specs.Claimed.{put_of}
use Rattle.rule_source.specs.Formulas.{FormulaOf}
use Rattle.rule_source.specs.Patterns.{literals_in}

-- the property is the opposite of what the statement claims: of `never` that its pattern is met, of `claim` that its formula fails, which speaks of a row and of the row after one step
abbrev pub Denies : Bits → Statement → Property → Type 0
Denies b (statement.Never n p) (Met q) = q ≡ literals_in b p
Denies b (statement.Claim n f) (Fails a) = FormulaOf b Step f a.value
Denies b _ _ = ⊥

-- it is put and named as its statement says, and asks the file's rule for the opposite of what the statement claims
pub record Asks (s : Source) (c : Claim) : Type 0 where
  pub put : put_of c.statement.now ≡ Some c.put
  pub name : IfSome (claim_name c.statement.now) (λ t. c.name.now ≡ bytes_of s.bits.text.now t)
  pub of_rule : c.question.rule.now ≡ s.rule
  pub opposite : Denies s.bits c.statement.now c.question.property
