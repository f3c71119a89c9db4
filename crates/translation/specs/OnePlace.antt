-- Formulas that say in places what a relation says of sets: that a set has one place, X = {x}; that two sets have one place each and one comes just behind
-- the other, X = {x} & Y = {x + 1}; or further on, X = {x} & Y = {y} & x < y. Of X = {x} the two inclusions are said, in either order, or x in X in place of the one.
use Rattle.std.specs.Prelude.{ℕ, Bool, true, false, cond, ◌&&◌, Option, Some, None, ◌==◌}
use Rattle.claims.specs.Claims.{C, within, single, next, before}
use Rattle.kinds.specs.declared.relation.Relation.{Relation}
use Rattle.kinds.specs.declared.relation.Relation.TheVariants.{Within, Single, Next, Before}
use Rattle.formulas.specs.declared.name.Name.TheVariants.{OfGroup}
use Rattle.formulas.specs.declared.formula.Place.{Place}
use Rattle.formulas.specs.declared.formula.Group.{Group}
use Rattle.formulas.specs.declared.formula.Formula.{Formula}
use Rattle.formulas.specs.declared.formula.Place.TheVariants.{Named as place, Succ'}
use Rattle.formulas.specs.declared.formula.Group.TheVariants.{Named as group, Only'}
use Rattle.formulas.specs.declared.formula.Formula.TheVariants.{Less, In, Sub, And', Some1'}
use Rattle.translation.specs.Numbers.{Numbering}

-- whether the place is that name's
abbrev pub is_named : ℕ → Place → Bool
is_named x (place y) = y == x
is_named x t = false

-- or the one behind it
abbrev pub is_behind : ℕ → Place → Bool
is_behind x (Succ' _ t) = is_named x t
is_behind x t = false

abbrev pub is_at : Bool → ℕ → Place → Bool
is_at behind x t = cond behind (is_behind x t) (is_named x t)

-- and the set that place alone
abbrev pub is_only : Bool → ℕ → Group → Bool
is_only behind x (Only' _ t) = is_at behind x t
is_only behind x s = false

-- the name of the set, if it has one
abbrev pub name_of : Group → Option ℕ
name_of (group y) = Some y
name_of s = None

-- the set of which the formula says that it has no place but that one
abbrev pub no_other : Bool → ℕ → Formula → Option ℕ
no_other behind x (Sub s t) = cond (is_only behind x t) (name_of s) None
no_other behind x a = None

-- and that of which it says that it has it
abbrev pub has_place : Bool → ℕ → Formula → Option ℕ
has_place behind x (Sub s t) = cond (is_only behind x s) (name_of t) None
has_place behind x (In t s) = cond (is_at behind x t) (name_of s) None
has_place behind x a = None

-- the set of both, if it is one
abbrev pub agreed : Option ℕ → Option ℕ → Option ℕ
agreed (Some y) (Some z) = cond (y == z) (Some y) None
agreed p q = None

-- the first that there is
abbrev pub first_of : {A : Type 0} → Option A → Option A → Option A
first_of (Some y) q = Some y
first_of None q = q

-- the set whose one place x is, or the place behind x, if the formula says just that, in either order
abbrev pub point_of : Bool → ℕ → Formula → Option ℕ
point_of behind x (And' _ a _ c) = first_of (agreed (no_other behind x a) (has_place behind x c)) (agreed (no_other behind x c) (has_place behind x a))
point_of behind x a = None

-- of sets by their names: that one has a place, that two have places one behind the other, or before it
abbrev pub single_of : Option ℕ → Option Relation
single_of (Some y) = Some (Single y)
single_of None = None

abbrev pub two_of : (ℕ → ℕ → Relation) → Option ℕ → Option ℕ → Option Relation
two_of f (Some y) (Some z) = Some (f y z)
two_of f p q = None

-- the two sets whose one places x and the place behind it are
abbrev pub next_of : ℕ → Formula → Option Relation
next_of x (And' _ a _ c) = two_of Next (point_of false x a) (point_of true x c)
next_of x a = None

-- whether the formula says that x comes before y
abbrev pub is_less : ℕ → ℕ → Formula → Bool
is_less x y (Less s t) = is_named x s && is_named y t
is_less x y a = false

-- the two sets whose one places x and y are
abbrev pub points_of : ℕ → ℕ → Formula → Option Relation
points_of x y (And' _ a _ c) = two_of Before (point_of false x a) (point_of false y c)
points_of x y a = None

-- and x comes before y
abbrev pub ordered_of : ℕ → ℕ → Formula → Option Relation
ordered_of x y (And' _ a _ c) = cond (is_less x y c) (points_of x y a) None
ordered_of x y a = None

abbrev pub before_of : ℕ → Formula → Option Relation
before_of x (Some1' y _ a) = cond (x == y) None (ordered_of x y a)
before_of x a = None

-- what is said of sets by that there is a place x of which the formula holds, if it is just that
abbrev pub relation_of : ℕ → Formula → Option Relation
relation_of x a = first_of (single_of (point_of false x a)) (first_of (next_of x a) (before_of x a))

-- the claim of the relation
abbrev pub claim_of : Numbering → Relation → C
claim_of ρ (Within y z) = within (ρ (OfGroup y)) (ρ (OfGroup z))
claim_of ρ (Single y) = single (ρ (OfGroup y))
claim_of ρ (Next y z) = next (ρ (OfGroup y)) (ρ (OfGroup z))
claim_of ρ (Before y z) = before (ρ (OfGroup y)) (ρ (OfGroup z))
