-- An answer on what a step keeps as six numbers and two rows, for callers in other languages.
use Rattle.std.specs.Prelude.{◌≡◌, ◌⊎◌, ◌<◌, ◌≤◌, ◌*◌, ◌-◌, ◌^◌, ◌++◌, ℕ, Bool, true, false, List, IsUtf8, drop, length, min, nat_le}
use Rattle.keeping.specs.declared.moment.Moment.{Moment}
use Rattle.keeping.specs.declared.moment.Moment.TheVariants.{Start, Step}
use Rattle.kept_check.specs.declared.answer.Answer.{Answer}
use Rattle.kept_check.specs.declared.answer.Answer.TheVariants.{Kept, NotKept, TooLarge}
use Rattle.kept_check.specs.declared.answer.Breach.{Breach}
use Rattle.kept_check.specs.declared.answer.Large.{Large}
use Rattle.kept_check.specs.declared.answer.Large.TheVariants.{Classes, Bytes, Sets}
use Rattle.kept_check.specs.declared.answer.TooLarge as large
use Rattle.kept_source.specs.Named.{Named}
use Rattle.kept_source.specs.declared.in_file.InFile.{InFile}
use Rattle.kept_source.specs.declared.in_file.InFile.TheVariants.{NotRead, NoSuchClaim, Judged}
use Rattle.rule_check.specs.declared.memory.Memory.{Memory}
use Rattle.export.specs.declared.kept_outcome.KeptOutcome.{KeptOutcome}
use Rattle.export.specs.declared.kept_outcome.KeptOutcome.TheVariants as outcome
use Rattle.export.specs.declared.kept_verdict.KeptNumbers.{KeptNumbers}

-- it was judged, with so many classes in so many words, and this was answered
abbrev pub AnsweredIn : List ℕ → List ℕ → ℕ → ℕ → InFile → Type 0
AnsweredIn text name most words a = (y : Memory) × (y.most ≡ most) × (y.words ≡ words) × Named text name y a

-- what is answered of a text and a name: the bytes of the name are no text, or what judging a name promises
abbrev pub OutcomeOf : List ℕ → List ℕ → ℕ → ℕ → KeptOutcome → Type 0
OutcomeOf text name most words (outcome.InFile NotRead) = 1048576 ≤ words
OutcomeOf text name most words (outcome.InFile NoSuchClaim) = (IsUtf8 name → ⊥) ⊎ AnsweredIn text name most words NoSuchClaim
OutcomeOf text name most words (outcome.InFile (Judged a)) = AnsweredIn text name most words (Judged a)
OutcomeOf text name most words outcome.NoMemory = 1048576 ≤ words
OutcomeOf text name most words outcome.TooFewWords = words < 1048576

-- where there is a first row, the row after it is as long
abbrev pub IsAsLong : Answer → Type 0
IsAsLong Kept = Unit {0}
IsAsLong (NotKept x) = length x.after.items ≡ length x.row.items
IsAsLong (TooLarge t) = Unit {0}

abbrev pub AreAsLong : KeptOutcome → Type 0
AreAsLong (outcome.InFile (Judged a)) = IsAsLong a
AreAsLong _ = Unit {0}

abbrev pub moment_number : Moment → ℕ
moment_number Start = 0
moment_number Step = 1

-- in what a claim is too large
abbrev pub reason : Large → ℕ
reason (Classes n) = 0
reason (Bytes n) = 1
reason (Sets n) = 2

abbrev pub count : Large → ℕ
count (Classes n) = n
count (Bytes n) = n
count (Sets n) = n

-- no more than which answer it is
abbrev pub plain : ℕ → KeptNumbers
plain t = record { tag = t; moment = 0; part = 0; reason = 0; number = 0; length = 0 }

abbrev pub too_large : large.TooLarge → KeptNumbers
too_large t = record { tag = 2; moment = moment_number t.moment; part = min t.part (2 ^ 32 - 1); reason = reason t.why; number = count t.why; length = 0 }

-- both rows have room
abbrev pub has_room : Breach → List ℕ → Bool
has_room x o = nat_le (2 * length x.row.items) (length o)

abbrev pub breach_numbers : Breach → Bool → KeptNumbers
breach_numbers x true = record { tag = 1; moment = moment_number x.moment; part = 0; reason = 0; number = 0; length = length x.row.items }
breach_numbers x false = record { tag = 5; moment = 0; part = 0; reason = 0; number = 0; length = length x.row.items }

-- the row, behind it the row after, and what stood behind both
abbrev pub breach_columns : Breach → List ℕ → Bool → List ℕ
breach_columns x o true = x.row.items ++ (x.after.items ++ drop (2 * length x.row.items) o)
breach_columns x o false = o

-- the numbers of an answer, where these columns may be overwritten
abbrev pub answer_numbers : Answer → List ℕ → KeptNumbers
answer_numbers Kept o = plain 0
answer_numbers (NotKept x) o = breach_numbers x (has_room x o)
answer_numbers (TooLarge t) o = too_large t

abbrev pub numbers : KeptOutcome → List ℕ → KeptNumbers
numbers (outcome.InFile NotRead) o = plain 3
numbers (outcome.InFile NoSuchClaim) o = plain 4
numbers (outcome.InFile (Judged a)) o = answer_numbers a o
numbers outcome.NoMemory o = plain 6
numbers outcome.TooFewWords o = plain 7

-- what these columns are then
abbrev pub answer_columns : Answer → List ℕ → List ℕ
answer_columns Kept o = o
answer_columns (NotKept x) o = breach_columns x o (has_room x o)
answer_columns (TooLarge t) o = o

abbrev pub columns : KeptOutcome → List ℕ → List ℕ
columns (outcome.InFile (Judged a)) o = answer_columns a o
columns _ o = o

-- the numbers and the columns are of an answer that keeps the call's promise, and the row after is as long as the row
abbrev pub Exported : List ℕ → List ℕ → ℕ → ℕ → List ℕ → List ℕ → KeptNumbers → Type 0
Exported text name most words o o' n = (a : KeptOutcome) × OutcomeOf text name most words a × AreAsLong a × (n ≡ numbers a o) × (o' ≡ columns a o)
