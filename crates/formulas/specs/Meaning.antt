-- What a formula means: which place a term for a place is, which set a term for a set, and when a formula holds.
use Rattle.std.specs.Prelude.{◌≡◌, ℕ, suc, ◌+◌, ◌*◌, ◌-◌, ◌<◌, Bool, true, cond, ◌&&◌, ◌||◌, not, ◌⊎◌, List, [], ◌==◌}
use Rattle.claims.specs.Claims.{has}
use Rattle.claims.specs.Places.{one}
use Rattle.formulas.specs.declared.formula.Place.{Place}
use Rattle.formulas.specs.declared.formula.Group.{Group}
use Rattle.formulas.specs.declared.formula.Formula.{Formula}
use Rattle.formulas.specs.declared.formula.Place.TheVariants.{Named as place, First, Succ', Prev', Least', Most'}
use Rattle.formulas.specs.declared.formula.Group.TheVariants.{Named as group, Empty, Only', Union', Inter', Minus'}
use Rattle.formulas.specs.declared.formula.Formula.TheVariants.{True, Same, Less, In, Sub, Count, Not', And', Or', Implies', Some1', All1', Some2', All2'}
use Rattle.formulas.specs.Sets.{mix, lowest, highest, how_many}

-- which place each name of a place is, and which finite set each name of a set
pub record Env : Type 0 where
  pub places : ℕ → ℕ
  pub groups : ℕ → List Bool

-- the same with place i for the name x of a place
abbrev pub with_place : Env → ℕ → ℕ → Env
with_place e x i = record { places = λ y. cond (y == x) i (e.places y); groups = e.groups }

-- and with the set u for the name x of a set
abbrev pub with_group : Env → ℕ → List Bool → Env
with_group e x u = record { places = e.places; groups = λ y. cond (y == x) u (e.groups y) }

-- before place 0 there is none: its Prev is place 0 itself
abbrev mutual
  pub value : Place → Env → ℕ
  value (place x) e = e.places x
  value First e = 0
  value (Succ' _ t) e = suc (value t e)
  value (Prev' _ t) e = value t e - 1
  value (Least' _ s) e = lowest (members s e)
  value (Most' _ s) e = highest (members s e)

  pub members : Group → Env → List Bool
  members (group x) e = e.groups x
  members Empty e = []
  members (Only' _ t) e = one (value t e)
  members (Union' _ s _ t) e = mix (λ a b. a || b) (members s e) (members t e)
  members (Inter' _ s _ t) e = mix (λ a b. a && b) (members s e) (members t e)
  members (Minus' _ s _ t) e = mix (λ a b. a && not b) (members s e) (members t e)

abbrev pub Meaning : Formula → Env → Type 0
Meaning True e = Unit {0}
Meaning (Same s t) e = value s e ≡ value t e
Meaning (Less s t) e = value s e < value t e
Meaning (In t s) e = has (members s e) (value t e) ≡ true
Meaning (Sub s t) e = (i : ℕ) → has (members s e) i ≡ true → has (members t e) i ≡ true
Meaning (Count s r) e = (t : ℕ) × (how_many (members s e) ≡ t * r.modulus + r.rest)
Meaning (Not' _ a) e = Meaning a e → ⊥
Meaning (And' _ a _ b) e = Meaning a e × Meaning b e
Meaning (Or' _ a _ b) e = Meaning a e ⊎ Meaning b e
Meaning (Implies' _ a _ b) e = Meaning a e → Meaning b e
Meaning (Some1' x _ a) e = (i : ℕ) × Meaning a (with_place e x i)
Meaning (All1' x _ a) e = (i : ℕ) → Meaning a (with_place e x i)
Meaning (Some2' x _ a) e = (u : List Bool) × Meaning a (with_group e x u)
Meaning (All2' x _ a) e = (u : List Bool) → Meaning a (with_group e x u)
