-- What is known of the choices before they are gone through, and what comes of going through them.
use Rattle.std.specs.Prelude.{◌≡◌, ℕ, suc, ◌≤◌, Bool, true, false, Option, Some, None, All, List, length, slice_index_or}
use Rattle.words.specs.Words.{Word, Columns}
use Rattle.keeping.specs.Kept.{OfRow, Starts}
use Rattle.kept_check.specs.declared.answer.Answer.{Answer}
use Rattle.kept_check.specs.declared.answer.Answer.TheVariants as answer
use Rattle.rule_check.specs.declared.memory.Memory.{Memory}
use Rattle.strengthening.specs.Search.{NoneExtends, Reaches}
use Rattle.strengthen.specs.Listed.{Below, Has, KeptWith, LargeWith, claim_at}
use Rattle.strengthen.specs.Marks.{AreTables, IsRefutation}
use Rattle.strengthen.specs.declared.follow.Followed.{Followed}
use Rattle.strengthen.specs.declared.follow.Followed.TheVariants as followed
use Rattle.strengthen.specs.declared.judge.Judged.{Judged}
use Rattle.strengthen.specs.declared.judge.Judged.TheVariants as judged
use Rattle.strengthen.specs.declared.known.Known.{Known}
use Rattle.strengthen.specs.declared.listed.Listed.{Listed}
use Rattle.strengthen.specs.declared.search.Stop.{Stop}
use Rattle.strengthen.specs.declared.search.Stop.TheVariants as stop

-- the claim with number j holds of each row of which the start does
abbrev pub Begins : Listed → ℕ → Type 0
Begins g j = (w : Word) → Columns g.keeping.now.rule.now.bits w → Starts g.keeping.now.rule.now.bits g.keeping.now.start.now w → OfRow g.keeping.now.rule.now.bits (claim_at g j) w

-- no choice that has it is kept
abbrev pub Without : Listed → ℕ → Type 0
Without g j = (is : List ℕ) → Below (length g.helpers.now) is → Has is j → KeptWith g is → ⊥

-- what it says of a claim whether it follows from the start: that it does, and that a choice that has it may be kept
abbrev pub said_of : Followed → Bool × Bool
said_of followed.Always = (true, true)
said_of (followed.Not r) = (false, false)
said_of followed.TooLarge = (false, true)

pub record IsKnown (g : Listed) (k : Known) : Type 0 where
  pub tabled : AreTables g k.tables.items
  pub many_begin : length k.begins.items ≡ suc (length g.helpers.now)
  pub many_left : length k.left.items ≡ suc (length g.helpers.now)
  pub begin : (j : ℕ) → j ≤ length g.helpers.now → slice_index_or k.begins.items j false ≡ true → Begins g j
  pub left : (j : ℕ) → j ≤ length g.helpers.now → slice_index_or k.left.items j true ≡ false → Without g j
  pub refuted : All (IsRefutation g) k.refutations.items

-- what an answer on the claim with a choice says of the choice
abbrev pub judged_of : Answer → Judged
judged_of answer.Kept = judged.Kept
judged_of (answer.NotKept x) = judged.NotKept
judged_of (answer.TooLarge t) = judged.TooLarge t

-- whether the claim is kept with this choice
abbrev pub IsJudged : Listed → Memory → List ℕ → Judged → Type 0
IsJudged g y is judged.Kept = KeptWith g is
IsJudged g y is judged.NotKept = KeptWith g is → ⊥
IsJudged g y is (judged.TooLarge t) = LargeWith g y is t

-- the choice at which the search ends, and what is known of it
abbrev pub end_of : Stop → List ℕ
end_of (stop.Kept is) = is.items
end_of (stop.TooLarge x) = x.choice.items

abbrev pub IsEnd : Listed → Memory → Stop → Type 0
IsEnd g y (stop.Kept is) = KeptWith g is.items
IsEnd g y (stop.TooLarge x) = LargeWith g y x.choice.items x.large

-- none of those that begin with is and go on with m numbers from a on is kept; or the search ends at one of them, and none before it is kept
abbrev pub IsSearched : Listed → Memory → ℕ → ℕ → List ℕ → Option Stop → Type 0
IsSearched g y a m is None = NoneExtends (KeptWith g) a (length g.helpers.now) m is
IsSearched g y a m is (Some s) = Reaches (KeptWith g) a (length g.helpers.now) m is (end_of s) × IsEnd g y s
