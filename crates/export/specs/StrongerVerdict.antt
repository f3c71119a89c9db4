-- An answer on a claim and a list of helpers as six numbers and the numbers of the helpers, for callers in other languages.
use Rattle.std.specs.Prelude.{◌≡◌, ◌⊎◌, ◌<◌, ◌≤◌, ◌-◌, ◌^◌, ◌++◌, ℕ, Bool, true, false, List, IsUtf8, drop, length, map, min, nat_le}
use Rattle.kept_check.specs.declared.answer.TooLarge as large
use Rattle.kept_source.specs.Strengthened.{Strengthened}
use Rattle.kept_source.specs.declared.helped.Helped.{Helped}
use Rattle.kept_source.specs.declared.helped.Helped.TheVariants.{NotRead, NoSuchClaim, Answered}
use Rattle.rule_check.specs.declared.memory.Memory.{Memory}
use Rattle.strengthen.specs.declared.answer.Stronger.{Stronger}
use Rattle.strengthen.specs.declared.answer.Stronger.TheVariants.{With, NoneAmong, TooLarge}
use Rattle.export.specs.KeptVerdict.{count, moment_number, reason}
use Rattle.export.specs.declared.stronger_outcome.StrongerOutcome.{StrongerOutcome}
use Rattle.export.specs.declared.stronger_outcome.StrongerOutcome.TheVariants as outcome
use Rattle.export.specs.declared.stronger_verdict.StrongerNumbers.{StrongerNumbers}

-- it was judged, with so many classes in so many words, and this was answered
abbrev pub AnsweredIn : List ℕ → List ℕ → ℕ → ℕ → Helped → Type 0
AnsweredIn text name most words a = (y : Memory) × (y.most ≡ most) × (y.words ≡ words) × Strengthened text name y a

-- what is answered of a text and a name: the bytes of the name are no text, or what is promised of the name
abbrev pub OutcomeOf : List ℕ → List ℕ → ℕ → ℕ → StrongerOutcome → Type 0
OutcomeOf text name most words (outcome.InFile NotRead) = 1048576 ≤ words
OutcomeOf text name most words (outcome.InFile NoSuchClaim) = (IsUtf8 name → ⊥) ⊎ AnsweredIn text name most words NoSuchClaim
OutcomeOf text name most words (outcome.InFile (Answered a)) = AnsweredIn text name most words (Answered a)
OutcomeOf text name most words outcome.NoMemory = 1048576 ≤ words
OutcomeOf text name most words outcome.TooFewWords = words < 1048576

-- no more than which answer it is
abbrev pub plain : ℕ → StrongerNumbers
plain t = record { tag = t; moment = 0; part = 0; reason = 0; number = 0; length = 0 }

-- what is too large
abbrev pub too_large : large.TooLarge → StrongerNumbers
too_large t = record { tag = 2; moment = moment_number t.moment; part = min t.part (2 ^ 32 - 1); reason = reason t.why; number = count t.why; length = 0 }

-- the choice has room
abbrev pub has_room : List ℕ → List ℕ → Bool
has_room is o = nat_le (length is) (length o)

-- a helper's number in the file's list, which begins at 0; from 2^32 - 1 on it is told as that
abbrev pub as_written : ℕ → ℕ
as_written i = min i (2 ^ 32 - 1)

-- what is said of a choice, and how many numbers it has
abbrev pub choice_numbers : StrongerNumbers → List ℕ → Bool → StrongerNumbers
choice_numbers n is true = record n { length = length is }
choice_numbers n is false = record (plain 5) { length = length is }

-- its numbers, and what stood behind them
abbrev pub choice_columns : List ℕ → List ℕ → Bool → List ℕ
choice_columns is o true = map as_written is ++ drop (length is) o
choice_columns is o false = o

-- the numbers of an answer, where these columns may be overwritten
abbrev pub answer_numbers : Stronger → List ℕ → StrongerNumbers
answer_numbers (With is) o = choice_numbers (plain 0) is.items (has_room is.items o)
answer_numbers NoneAmong o = plain 1
answer_numbers (TooLarge x) o = choice_numbers (too_large x.large) x.choice.items (has_room x.choice.items o)

abbrev pub numbers : StrongerOutcome → List ℕ → StrongerNumbers
numbers (outcome.InFile NotRead) o = plain 3
numbers (outcome.InFile NoSuchClaim) o = plain 4
numbers (outcome.InFile (Answered a)) o = answer_numbers a o
numbers outcome.NoMemory o = plain 6
numbers outcome.TooFewWords o = plain 7

-- what these columns are then
abbrev pub answer_columns : Stronger → List ℕ → List ℕ
answer_columns (With is) o = choice_columns is.items o (has_room is.items o)
answer_columns NoneAmong o = o
answer_columns (TooLarge x) o = choice_columns x.choice.items o (has_room x.choice.items o)

abbrev pub columns : StrongerOutcome → List ℕ → List ℕ
columns (outcome.InFile (Answered a)) o = answer_columns a o
columns _ o = o

-- the numbers and the columns are of an answer that keeps the call's promise
abbrev pub Exported : List ℕ → List ℕ → ℕ → ℕ → List ℕ → List ℕ → StrongerNumbers → Type 0
Exported text name most words o o' n = (a : StrongerOutcome) × OutcomeOf text name most words a × (n ≡ numbers a o) × (o' ≡ columns a o)
