-- What is asked of a claim and a list that may help to keep it: which choices of the list keep it.
use Rattle.std.specs.Prelude.{◌≡◌, ℕ, zero, suc, ◌<◌, List, [], ◌∷◌, IsTrue, length, get_or, ◌↔◌}
use Rattle.words.specs.Words.{Word}
use Rattle.formulas.specs.declared.formula.Formula.{Formula}
use Rattle.formulas.specs.declared.formula.Formula.TheVariants.{True}
use Rattle.formulas.specs.Names.{Among}
use Rattle.rows.specs.Faults.{limits_ok}
use Rattle.keeping.specs.Kept.{OfRow}
use Rattle.strengthening.specs.Choices as choices
use Rattle.strengthening.specs.Choices.{AllHold, chosen}
use Rattle.kept_check.specs.Told as kept_check
use Rattle.kept_check.specs.declared.answer.TooLarge.{TooLarge}
use Rattle.kept_claims.specs.declared.kept.Keeping.{Keeping}
use Rattle.rule_check.specs.declared.memory.Memory.{Memory}
use Rattle.rules.specs.declared.known.Unsound.{Unsound}
use Rattle.rules.specs.declared.known.Unsound.TheVariants.{Bits, UnknownBit, UnknownName, OutOfMemory}
use Rattle.strengthen.specs.declared.listed.Listed.{Listed}

-- only where one of them names what is no set of the row, or for want of memory
abbrev pub Unlisted : ℕ → List Formula → Unsound → Type 0
Unlisted b l Bits = ⊥
Unlisted b l UnknownBit = ⊥
Unlisted b l UnknownName = IsTrue (limits_ok b l) → ⊥
Unlisted b l OutOfMemory = Unit {0}

-- the numbers are of the list
abbrev pub Below : ℕ → List ℕ → Type 0
Below n [] = Unit {0}
Below n (i ∷ is) = (i < n) × Below n is

-- the claim and those of the list with these numbers
abbrev pub claims_with : Listed → List ℕ → List Formula
claims_with g is = g.keeping.now.claim.value ∷ chosen g.helpers.now is

-- the claim is kept with these
abbrev pub KeptWith : Listed → List ℕ → Type 0
KeptWith g is = choices.KeptWith g.keeping.now.rule.now.layout g.keeping.now.rule.now.bits g.keeping.now.rule.now.table.items g.keeping.now.start.now g.keeping.now.claim.value g.helpers.now is

abbrev pub Fewest : Listed → List ℕ → Type 0
Fewest g is = choices.Fewest g.keeping.now.rule.now.layout g.keeping.now.rule.now.bits g.keeping.now.rule.now.table.items g.keeping.now.start.now g.keeping.now.claim.value g.helpers.now is

abbrev pub NoneAmong : Listed → Type 0
NoneAmong g = choices.NoneAmong g.keeping.now.rule.now.layout g.keeping.now.rule.now.bits g.keeping.now.rule.now.table.items g.keeping.now.start.now g.keeping.now.claim.value g.helpers.now

-- one formula, of the same rule and start, says that the claim holds and all those with these numbers do
pub record IsWith (g : Listed) (is : List ℕ) (k : Keeping) : Type 0 where
  pub of_rule : k.rule.now ≡ g.keeping.now.rule.now
  pub of_start : k.start.now ≡ g.keeping.now.start.now
  pub says : (w : Word) → OfRow g.keeping.now.rule.now.bits k.claim.value w ↔ AllHold g.keeping.now.rule.now.bits (claims_with g is) w

-- the claims by their numbers: 0 is the claim itself, and 1 the first of the list
abbrev pub claim_at : Listed → ℕ → Formula
claim_at g j = get_or (g.keeping.now.claim.value ∷ g.helpers.now) j True

-- it is among them: the claim itself always is
abbrev pub Has : List ℕ → ℕ → Type 0
Has is zero = Unit {0}
Has is (suc i) = Among i is

-- the claim with this choice, as one formula, is too large to be judged
pub record LargeWith (g : Listed) (y : Memory) (is : List ℕ) (t : TooLarge) : Type 0 where
  pub keeping : Keeping
  pub is_with : IsWith g is keeping
  pub large : kept_check.IsTooLarge keeping y t
