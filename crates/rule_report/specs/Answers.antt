-- What an answer says of the rows of a rule, however long.
use Rattle.std.specs.Prelude.{ℕ, suc, ◌-◌, ◌^◌, unwrap_or}
use Rattle.words.specs.Words.{Word, Columns}
use Rattle.claims.specs.Encoded.{sets_needed, Refused as IsRefused}
use Rattle.rows.specs.RowClaims.{First as FirstRow}
use Rattle.rules.specs.Property.{Has, claim_of}
use Rattle.rules.specs.declared.rule.Rule.{Rule}
use Rattle.rules.specs.declared.property.Property.{Property}
use Rattle.rule_check.specs.Told.{TooMany}
use Rattle.diagram.specs.declared.history.History.{History}
use Rattle.rule_report.specs.declared.answer.Answer.{Answer}
use Rattle.rule_report.specs.declared.answer.Answer.TheVariants.{Never, First, TooLarge, Refused}
use Rattle.rule_report.specs.declared.options.Options.{Options}
use Rattle.rule_report.specs.declared.subject.Subject.{Subject}
use Rattle.rule_source.specs.declared.source.Source.{Source}
use Rattle.rule_report.specs.Narrowing.{IsNarrowest}
use Rattle.rule_report.specs.ShownRows.{Follows}
use Rattle.rule_report.specs.Subjects.{steps_of}

-- the first row that has the property, and so many rows after it
pub record FirstRows (r : Rule) (p : Property) (steps : ℕ) (h : History) : Type 0 where
  pub row : Word
  pub first : FirstRow r.bits (Has r p) row
  pub follows : Follows r row steps h

-- how many classes may be told apart
abbrev pub most_of : Options → ℕ
most_of o = unwrap_or o.most (2 ^ 32 - 1)

-- no row of the source's rule has the property; these are the first row that has it and those after it; so many classes do not suffice for its claim, and this is where; the claim takes so many bytes or sets
abbrev pub TrueOf : Source → Options → Subject → Property → Answer → Type 0
TrueOf source o s p Never = (w : Word) → Columns source.rule.bits w → Has source.rule p w → ⊥
TrueOf source o s p (First h) = FirstRows source.rule p (steps_of s o.steps) h
TrueOf source o s p (TooLarge n place) = TooMany (sets_needed (suc source.rule.bits) (claim_of source.rule p)) (claim_of source.rule p) (most_of o) n × IsNarrowest n source s place
TrueOf source o s p (Refused e) = IsRefused (suc source.rule.bits) (claim_of source.rule p) e
