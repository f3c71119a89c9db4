-- What is answered of a rule file and a name: with which of the file's list of helpers what the file claims to be kept under it is.
use Rattle.std.specs.Prelude.{◌≡◌, ℕ, List, Contains}
use Rattle.rule_check.specs.declared.memory.Memory.{Memory}
use Rattle.rule_source.specs.Kept.{Keeps, kept_in}
use Rattle.rule_source.specs.Reading.{IsRead}
use Rattle.rule_source.specs.declared.kept.Keep.{Keep}
use Rattle.rule_source.specs.declared.source.Source.{Source}
use Rattle.strengthen.specs.Told.{Told}
use Rattle.strengthen.specs.declared.answer.Stronger.{Stronger}
use Rattle.strengthen.specs.declared.listed.Listed.{Listed}
use Rattle.kept_source.specs.Named.{ClaimsNone}
use Rattle.kept_source.specs.declared.helped.Helped.{Helped}
use Rattle.kept_source.specs.declared.helped.Helped.TheVariants as answer

-- the answer is on something that the file claims to be kept under that name, and on the file's whole list
pub record IsStrengthened (s : Source) (name : List ℕ) (y : Memory) (a : Stronger) : Type 0 where
  pub keep : Keep
  pub claimed : Contains (kept_in s.file.lines.items) keep.statement.now
  pub of_file : Keeps s keep
  pub named : keep.name.now ≡ name
  pub listed : Listed
  pub of_keep : listed.keeping.now ≡ keep.keeping
  pub of_list : listed.helpers.now ≡ s.helpers.items
  pub told : Told listed y a

-- of a file that was read; nothing is said where the file is refused
abbrev pub OfSource : Source → List ℕ → Memory → Helped → Type 0
OfSource s name y answer.NotRead = Unit {0}
OfSource s name y answer.NoSuchClaim = ClaimsNone s name
OfSource s name y (answer.Answered a) = IsStrengthened s name y a

-- of a text
abbrev pub Strengthened : List ℕ → List ℕ → Memory → Helped → Type 0
Strengthened text name y answer.NotRead = Unit {0}
Strengthened text name y answer.NoSuchClaim = (s : Source) × IsRead text s × ClaimsNone s name
Strengthened text name y (answer.Answered a) = (s : Source) × IsRead text s × IsStrengthened s name y a
