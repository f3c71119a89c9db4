-- What an answer on a claim and a list says: with which choice of the list the claim is kept, of rows of every length.
use Rattle.std.specs.Prelude.{ℕ, List, length}
use Rattle.words.specs.Order.{Less}
use Rattle.rule_check.specs.declared.memory.Memory.{Memory}
use Rattle.strengthening.specs.Choices.{Choice}
use Rattle.strengthen.specs.Listed.{KeptWith, Fewest, NoneAmong, LargeWith}
use Rattle.strengthen.specs.declared.answer.LargeChoice.{LargeChoice}
use Rattle.strengthen.specs.declared.answer.Stronger.{Stronger}
use Rattle.strengthen.specs.declared.answer.Stronger.TheVariants as answer
use Rattle.strengthen.specs.declared.listed.Listed.{Listed}

-- the claim with this choice, as one formula, is too large to be judged; and it is kept with none of the choices before
pub record IsTooLarge (g : Listed) (y : Memory) (x : LargeChoice) : Type 0 where
  pub choice : Choice (length g.helpers.now) x.choice.items
  pub first : (js : List ℕ) → Choice (length g.helpers.now) js → Less js x.choice.items → KeptWith g js → ⊥
  pub large : LargeWith g y x.choice.items x.large

abbrev pub Told : Listed → Memory → Stronger → Type 0
Told g y (answer.With is) = Fewest g is.items
Told g y answer.NoneAmong = NoneAmong g
Told g y (answer.TooLarge x) = IsTooLarge g y x
