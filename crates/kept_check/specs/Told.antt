-- What an answer on a claim says, that a formula is kept by the steps of a rule: of rows of every length, and of every time.
use Rattle.std.specs.Prelude.{◌≡◌, ℕ, ◌⊎◌, length}
use Rattle.words.specs.Words.{Word, Columns}
use Rattle.rows.specs.RowClaims.{First as FirstRow}
use Rattle.keeping.specs.Kept as kept
use Rattle.keeping.specs.declared.moment.Moment.{Moment}
use Rattle.rules.specs.Property.{after}
use Rattle.kept_claims.specs.Breach.{Kept, Breaks, Broken}
use Rattle.kept_claims.specs.declared.kept.Keeping.{Keeping}
use Rattle.kept_check.specs.Parts.{parts}
use Rattle.kept_check.specs.Found.{IsLarge, LargeIn, FoundOf}
use Rattle.kept_check.specs.declared.answer.Answer.{Answer}
use Rattle.kept_check.specs.declared.answer.Answer.TheVariants as answer
use Rattle.kept_check.specs.declared.answer.Breach.{Breach}
use Rattle.kept_check.specs.declared.answer.Large.{Large}
use Rattle.kept_check.specs.declared.answer.TooLarge.{TooLarge}
use Rattle.kept_check.specs.declared.found.Found.{Found}
use Rattle.rule_check.specs.declared.memory.Memory.{Memory}

-- whatever row a run of the rule begins with of which the start holds, the claim holds of its row at every time
abbrev pub AlwaysHolds : Keeping → Type 0
AlwaysHolds k =
    (rows : ℕ → Word) → kept.Run k.rule.now.layout k.rule.now.bits k.rule.now.table.items rows → Columns k.rule.now.bits (rows 0) → kept.Starts k.rule.now.bits k.start.now (rows 0) → (t : ℕ) →
    kept.OfRow k.rule.now.bits k.claim.value (rows t)

-- the row is the first that shows that the claim is not kept, at that moment, and behind it stands the row after
pub record IsBreach (k : Keeping) (x : Breach) : Type 0 where
  pub first : FirstRow k.rule.now.bits (Broken k k.claim.value) x.row.items
  pub moment : Breaks k k.claim.value x.moment x.row.items
  pub next : x.after.items ≡ after k.rule.now x.row.items

-- a part of the claim is too large, and where it has more than one so is the whole
pub record IsTooLarge (k : Keeping) (y : Memory) (t : TooLarge) : Type 0 where
  pub of_part : LargeIn k y (parts k.claim.value) 1 t
  pub of_whole : (length (parts k.claim.value) ≡ 1) ⊎ ((m : Moment) × (l : Large) × IsLarge k y k.claim.value m l)

-- what is found of the claim
abbrev pub OfClaim : Keeping → Memory → Found → Type 0
OfClaim k y f = FoundOf k.rule.now.bits (Broken k k.claim.value) (Breaks k k.claim.value) (IsTooLarge k y) f

abbrev pub Told : Keeping → Memory → Answer → Type 0
Told k y answer.Kept = Kept k × AlwaysHolds k
Told k y (answer.NotKept x) = IsBreach k x
Told k y (answer.TooLarge t) = IsTooLarge k y t
