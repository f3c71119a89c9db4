-- What is answered of a rule file and a name: of what the file claims to be kept under it.
use Rattle.std.specs.Prelude.{◌≡◌, ◌≢◌, ℕ, List, All, Contains, IfSome}
use Rattle.kept_check.specs.Told.{Told}
use Rattle.kept_check.specs.declared.answer.Answer.{Answer}
use Rattle.rule_check.specs.declared.memory.Memory.{Memory}
use Rattle.rule_file.specs.Claims.{bytes_of, claim_name}
use Rattle.rule_file.specs.declared.tree.Statement.{Statement}
use Rattle.rule_source.specs.Kept.{Keeps, kept_in}
use Rattle.rule_source.specs.declared.kept.Keep.{Keep}
use Rattle.rule_source.specs.declared.source.Source.{Source}
use Rattle.rule_source.specs.Reading.{IsRead}
use Rattle.kept_source.specs.declared.in_file.InFile.{InFile}
use Rattle.kept_source.specs.declared.in_file.InFile.TheVariants as answer

-- the statement gives this name to nothing
abbrev pub IsNot : List ℕ → List ℕ → Statement → Type 0
IsNot text name x = IfSome (claim_name x) (λ t. bytes_of text t ≢ name)

-- nothing of that name is claimed to be kept in the file
abbrev pub ClaimsNone : Source → List ℕ → Type 0
ClaimsNone s name = All (IsNot s.bits.text.now name) (kept_in s.file.lines.items)

-- the answer is on something that the file claims to be kept under that name
pub record IsJudged (s : Source) (name : List ℕ) (y : Memory) (a : Answer) : Type 0 where
  pub keep : Keep
  pub claimed : Contains (kept_in s.file.lines.items) keep.statement.now
  pub of_file : Keeps s keep
  pub named : keep.name.now ≡ name
  pub told : Told keep.keeping y a

-- of a file that was read; nothing is said where the file is refused
abbrev pub OfSource : Source → List ℕ → Memory → InFile → Type 0
OfSource s name y answer.NotRead = Unit {0}
OfSource s name y answer.NoSuchClaim = ClaimsNone s name
OfSource s name y (answer.Judged a) = IsJudged s name y a

-- of a text
abbrev pub Named : List ℕ → List ℕ → Memory → InFile → Type 0
Named text name y answer.NotRead = Unit {0}
Named text name y answer.NoSuchClaim = (s : Source) × IsRead text s × ClaimsNone s name
Named text name y (answer.Judged a) = (s : Source) × IsRead text s × IsJudged s name y a
