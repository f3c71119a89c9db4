-- What is known where a part of a text is read, as the code holds it: names with the terms that they stand for, and predicates.
use Rattle.std.specs.Prelude.{◌≡◌, ℕ, ◌<◌, Bool, true, List, Option, Some, None, string_bytes}
use Rattle.claims.specs.Claims.{has}
use Rattle.formulas.specs.Meaning.{Env, value, members, with_place, with_group}
use Rattle.resolve.specs.Says.{Value, place, set, Context, nothing, bind, placed, define, Inside, SomePlace, EachPlace, SomeSet, EachSet}
use Rattle.resolve.specs.declared.scope.Term.{Term}
use Rattle.resolve.specs.declared.scope.Term.TheVariants.{Place, Set}
use Rattle.trees.specs.declared.tree.Sort.{Sort}
use Rattle.trees.specs.declared.tree.Sort.TheVariants.{Place as OfPlace, Set as OfSet}
use Rattle.trees.specs.declared.tree.Quantifier.{Quantifier}
use Rattle.trees.specs.declared.tree.Quantifier.TheVariants as quantifier
use Rattle.resolve.specs.Spaces.{Space, the_row, the_ring}
use Rattle.resolve.specs.Faults.{Signature, outermost, named, placed as within, defined}
use Rattle.resolve.specs.declared.scope.Shape.{Shape}
use Rattle.resolve.specs.declared.scope.Shape.TheVariants as shape
use Rattle.resolve.specs.declared.scope.Scope.{Scope}
use Rattle.resolve.specs.declared.scope.Scope.TheVariants.{Outermost, Named', Row', Defined'}

-- what a term over numbers stands for
abbrev pub meant : Term → Env → Value
meant (Place t) e = place (value t.value e)
meant (Set t) e = set (members t.value e)

-- a row with these places, or a ring
abbrev pub space_of : Shape → List Bool → Space
space_of shape.Row u = the_row u
space_of shape.Ring u = the_ring u

abbrev pub context : Scope → Env → Context
context Outermost e = nothing
context (Named' x t _ outer) e = bind x.now (meant t.now e) (context outer e)
context (Row' n s _ outer) e = placed (space_of s (e.groups n)) (context outer e)
context (Defined' p _ outer) e = define p.now (context outer e)

-- the number of the row or of the ring, where one is spoken of
abbrev pub row_of : Scope → Option ℕ
row_of Outermost = None
row_of (Named' x t _ outer) = row_of outer
row_of (Row' n s _ outer) = Some n
row_of (Defined' p _ outer) = row_of outer

-- the number of the ring, where one is spoken of
abbrev pub ring_number : Shape → ℕ → Option ℕ
ring_number shape.Row n = None
ring_number shape.Ring n = Some n

abbrev pub ring_of : Scope → Option ℕ
ring_of Outermost = None
ring_of (Named' x t _ outer) = ring_of outer
ring_of (Row' n s _ outer) = ring_number s n
ring_of (Defined' p _ outer) = ring_of outer

-- the places of the set with a number, if there is one
abbrev pub places_of : Option ℕ → Env → Option (List Bool)
places_of None e = None
places_of (Some n) e = Some (e.groups n)

abbrev pub term_sort : Term → Sort
term_sort (Place t) = OfPlace
term_sort (Set t) = OfSet

-- the names in scope without what they stand for
abbrev pub signature : Scope → Signature
signature Outermost = outermost
signature (Named' x t _ outer) = named (string_bytes x.now.text) (term_sort t.now) (signature outer)
signature (Row' n s _ outer) = within s (signature outer)
signature (Defined' p _ outer) = defined p.now (signature outer)

-- the same places and sets for the names with numbers below n
abbrev pub Agree : ℕ → Env → Env → Type 0
Agree n e f = (x : ℕ) → x < n → (e.places x ≡ f.places x) × (e.groups x ≡ f.groups x)

-- terms that do not depend on names with the number n or a larger one
abbrev pub Settled : ℕ → Term → Type 0
Settled n t = (e f : Env) → Agree n e f → meant t e ≡ meant t f

abbrev pub Steady : ℕ → Scope → Type 0
Steady n Outermost = Unit {0}
Steady n (Named' x t _ outer) = Settled n t.now × Steady n outer
Steady n (Row' m s _ outer) = (m < n) × Steady n outer
Steady n (Defined' p _ outer) = Steady n outer

-- the row's number, where one is spoken of, is below n
abbrev pub IsBelow : ℕ → Option ℕ → Type 0
IsBelow n None = Unit {0}
IsBelow n (Some m) = m < n

-- what the name with the number n stands for is the row's, whose number is r
abbrev pub Bound : Sort → ℕ → ℕ → Env → Type 0
Bound OfPlace n r e = has (e.groups r) (e.places n) ≡ true
Bound OfSet n r e = Inside (e.groups r) (e.groups n)

abbrev pub WhereBound : Quantifier → Type 0 → Type 0 → Type 0
WhereBound quantifier.Some B P = B × P
WhereBound quantifier.All B P = B → P

-- P is true for something that the name with the number n stands for, or for all; where a row with a number is spoken of, for what is the row's
abbrev pub OverAll : Quantifier → Sort → ℕ → Option ℕ → (Env → Type 0) → Env → Type 0
OverAll quantifier.Some OfPlace n row P e = SomePlace (places_of row e) (λ i. P (with_place e n i))
OverAll quantifier.Some OfSet n row P e = SomeSet (places_of row e) (λ u. P (with_group e n u))
OverAll quantifier.All OfPlace n row P e = EachPlace (places_of row e) (λ i. P (with_place e n i))
OverAll quantifier.All OfSet n row P e = EachSet (places_of row e) (λ u. P (with_group e n u))
