-- The names that are free in a formula, in the order in which they stand there, as often as they do.
use Rattle.std.specs.Prelude.{◌≡◌, Bool, false, cond, ◌⊎◌, List, [], ◌∷◌, ◌++◌, ◌==◌}
use Rattle.formulas.specs.declared.name.Name.{Name}
use Rattle.formulas.specs.declared.name.Name.TheVariants.{OfPlace, OfGroup}
use Rattle.formulas.specs.declared.formula.Place.{Place}
use Rattle.formulas.specs.declared.formula.Group.{Group}
use Rattle.formulas.specs.declared.formula.Formula.{Formula}
use Rattle.formulas.specs.declared.formula.Place.TheVariants.{Named as place, First, Succ', Prev', Least', Most'}
use Rattle.formulas.specs.declared.formula.Group.TheVariants.{Named as group, Empty, Only', Union', Inter', Minus'}
use Rattle.formulas.specs.declared.formula.Formula.TheVariants.{True, Same, Less, In, Sub, Count, Not', And', Or', Implies', Some1', All1', Some2', All2'}

abbrev pub same_name : Name → Name → Bool
same_name (OfPlace x) (OfPlace y) = x == y
same_name (OfPlace x) (OfGroup y) = false
same_name (OfGroup x) (OfPlace y) = false
same_name (OfGroup x) (OfGroup y) = x == y

-- the list without the name x
abbrev pub without : Name → List Name → List Name
without x [] = []
without x (y ∷ l) = cond (same_name y x) (without x l) (y ∷ without x l)

abbrev mutual
  pub names_place : Place → List Name
  names_place (place x) = OfPlace x ∷ []
  names_place First = []
  names_place (Succ' _ t) = names_place t
  names_place (Prev' _ t) = names_place t
  names_place (Least' _ s) = names_group s
  names_place (Most' _ s) = names_group s

  pub names_group : Group → List Name
  names_group (group x) = OfGroup x ∷ []
  names_group Empty = []
  names_group (Only' _ t) = names_place t
  names_group (Union' _ s _ t) = names_group s ++ names_group t
  names_group (Inter' _ s _ t) = names_group s ++ names_group t
  names_group (Minus' _ s _ t) = names_group s ++ names_group t

abbrev pub names : Formula → List Name
names True = []
names (Same s t) = names_place s ++ names_place t
names (Less s t) = names_place s ++ names_place t
names (In t s) = names_place t ++ names_group s
names (Sub s t) = names_group s ++ names_group t
names (Count s r) = names_group s
names (Not' _ a) = names a
names (And' _ a _ b) = names a ++ names b
names (Or' _ a _ b) = names a ++ names b
names (Implies' _ a _ b) = names a ++ names b
names (Some1' x _ a) = without (OfPlace x) (names a)
names (All1' x _ a) = without (OfPlace x) (names a)
names (Some2' x _ a) = without (OfGroup x) (names a)
names (All2' x _ a) = without (OfGroup x) (names a)

-- x is one of the list
abbrev pub Among : {A : Type 0} → A → List A → Type 0
Among x [] = ⊥
Among x (y ∷ l) = (x ≡ y) ⊎ Among x l
