-- What a text says: which place or set a term is, when a formula holds, what is assumed and what is claimed.
use Rattle.std.specs.Prelude.{◌≡◌, ℕ, suc, ◌+◌, ◌*◌, ◌<◌, ◌≤◌, Bool, true, cond, ◌&&◌, ◌||◌, not, ◌⊎◌, List, [], ◌∷◌, Option, Some, None, string_bytes}
use Rattle.std.specs.Str.{bytes_eq}
use Rattle.claims.specs.Claims.{has}
use Rattle.claims.specs.Places.{one}
use Rattle.formulas.specs.Sets.{mix, lowest, highest, how_many}
use Rattle.formulas.specs.Meaning.{Env}
use Rattle.trees.specs.declared.tree.Name.{Name}
use Rattle.trees.specs.declared.tree.Sort.{Sort}
use Rattle.trees.specs.declared.tree.Sort.TheVariants.{Place, Set}
use Rattle.trees.specs.declared.tree.Quantifier.{Quantifier}
use Rattle.trees.specs.declared.tree.Quantifier.TheVariants as quantifier
use Rattle.trees.specs.declared.tree.Unary.TheVariants.{Not, Min, Max, IsEmpty}
use Rattle.trees.specs.declared.tree.Binary.TheVariants.{Iff, Implies, Or, And, In, NotIn, Sub, Equal, Differs, Less, AtMost, Greater, AtLeast, Union, Inter, Without, Plus, Minus}
use Rattle.trees.specs.declared.tree.ExprKind.{ExprKind, Row_of-ExprKind-Listed-0-2 as Exprs, end_of-ExprKind-Listed-0-2 as end, more_of-ExprKind-Listed-0-2 as more}
use Rattle.trees.specs.declared.tree.ExprKind.TheVariants.{True, Empty, Number, Named, Listed', Unary', Binary', Bound', Call', Count'}
use Rattle.trees.specs.declared.tree.Parameter.{Parameter}
use Rattle.trees.specs.declared.tree.Predicate.{Predicate}
use Rattle.trees.specs.declared.tree.Item.{Item}
use Rattle.trees.specs.declared.tree.Row.{Row as RowNames}
use Rattle.trees.specs.declared.tree.Ends.{Ends}
use Rattle.trees.specs.declared.tree.Ends.TheVariants.{Last, Round}
use Rattle.trees.specs.declared.tree.Item.TheVariants.{Free, Row, Predicate as defined, Assert, Formula}
use Rattle.resolve.specs.Spaces.{Space, everywhere, the_row, the_ring, bounds, around, forward, back}

-- a place, a finite set of places, or neither: a name that is not declared, an expression that is no term
pub data Value : Type 0 where
  place : ℕ → Value
  set : List Bool → Value
  none : Value

abbrev pub place_of : Value → ℕ
place_of (place i) = i
place_of (set u) = 0
place_of none = 0

abbrev pub set_of : Value → List Bool
set_of (place i) = []
set_of (set u) = u
set_of none = []

abbrev pub IsSet : Value → Type 0
IsSet (place i) = ⊥
IsSet (set u) = Unit {0}
IsSet none = ⊥

-- what the names in scope stand for, what the predicates in scope say of their arguments, and where the places are
pub record Context : Type 1 where
  pub value : List ℕ → Value
  pub says : List ℕ → List Value → Type 0
  pub space : Space

abbrev pub nothing : Context
nothing = record { value = λ y. none; says = λ y vs. ⊥; space = everywhere }

-- from here on the name stands for v
abbrev pub bind : Name → Value → Context → Context
bind x v s = record { value = λ y. cond (bytes_eq (string_bytes x.text) y) v (s.value y); says = s.says; space = s.space }

-- from here on the places are there
abbrev pub placed : Space → Context → Context
placed space s = record { value = s.value; says = s.says; space = space }

abbrev pub each_place : List Value → List Bool
each_place [] = []
each_place (v ∷ vs) = mix (λ a b. a || b) (one (place_of v)) (each_place vs)

-- the number that stands behind + or -
abbrev pub number_of : ExprKind → ℕ
number_of (Number n) = n
number_of _ = 0

-- what tells where places begin or end says nothing on a ring, which goes round: a number, `min` and `max`
abbrev pub straight : Option (List Bool) → Value → Value
straight None v = v
straight (Some u) v = none

-- and so does an order of places
abbrev pub Ordered : Option (List Bool) → Type 0 → Type 0
Ordered None P = P
Ordered (Some u) P = ⊥

abbrev mutual
  -- what a term stands for
  pub value : ExprKind → Context → Value
  value (Number n) s = straight (around s.space) (place n)
  value Empty s = set []
  value (Named x) s = s.value (string_bytes x.text)
  value (Listed' shape all) s = set (each_place (values all s))
  value (Unary' Min _ a _) s = straight (around s.space) (place (lowest (set_of (value a s))))
  value (Unary' Max _ a _) s = straight (around s.space) (place (highest (set_of (value a s))))
  value (Binary' Union _ a _ _ b _) s = set (mix (λ x y. x || y) (set_of (value a s)) (set_of (value b s)))
  value (Binary' Inter _ a _ _ b _) s = set (mix (λ x y. x && y) (set_of (value a s)) (set_of (value b s)))
  value (Binary' Without _ a _ _ b _) s = set (mix (λ x y. x && not y) (set_of (value a s)) (set_of (value b s)))
  value (Binary' Plus _ a _ _ b _) s = place (forward (around s.space) (number_of b) (place_of (value a s)))
  value (Binary' Minus _ a _ _ b _) s = place (back (around s.space) (number_of b) (place_of (value a s)))
  value _ s = none

  pub values : {m : _} → Exprs m → Context → List Value
  values end s = []
  values (more a _ rest) s = value a s ∷ values rest s

-- the same place, or sets of the same places
abbrev pub Same : Value → Value → Type 0
Same (place i) (place j) = i ≡ j
Same (set u) (set w) = (i : ℕ) → has u i ≡ has w i
Same _ _ = ⊥

-- each place of the set is one of the row or of the ring
abbrev pub Inside : List Bool → List Bool → Type 0
Inside row u = (i : ℕ) → has u i ≡ true → has row i ≡ true

-- P is true of some place, of each; where a row or a ring is spoken of, of its places
abbrev pub SomePlace : Option (List Bool) → (ℕ → Type 0) → Type 0
SomePlace None P = (i : ℕ) × P i
SomePlace (Some row) P = (i : ℕ) × (has row i ≡ true) × P i

abbrev pub EachPlace : Option (List Bool) → (ℕ → Type 0) → Type 0
EachPlace None P = (i : ℕ) → P i
EachPlace (Some row) P = (i : ℕ) → has row i ≡ true → P i

-- and of some set, of each; where a row or a ring is spoken of, of sets of its places
abbrev pub SomeSet : Option (List Bool) → (List Bool → Type 0) → Type 0
SomeSet None P = (u : List Bool) × P u
SomeSet (Some row) P = (u : List Bool) × Inside row u × P u

abbrev pub EachSet : Option (List Bool) → (List Bool → Type 0) → Type 0
EachSet None P = (u : List Bool) → P u
EachSet (Some row) P = (u : List Bool) → Inside row u → P u

abbrev pub quantified : Quantifier → Sort → List Name → (Context → Type 0) → Context → Type 0
quantified q sort [] f s = f s
quantified quantifier.Some Place (x ∷ xs) f s = SomePlace (bounds s.space) (λ i. quantified quantifier.Some Place xs f (bind x (place i) s))
quantified quantifier.Some Set (x ∷ xs) f s = SomeSet (bounds s.space) (λ u. quantified quantifier.Some Set xs f (bind x (set u) s))
quantified quantifier.All Place (x ∷ xs) f s = EachPlace (bounds s.space) (λ i. quantified quantifier.All Place xs f (bind x (place i) s))
quantified quantifier.All Set (x ∷ xs) f s = EachSet (bounds s.space) (λ u. quantified quantifier.All Set xs f (bind x (set u) s))

-- when a formula holds
abbrev pub holds : ExprKind → Context → Type 0
holds True s = Unit {0}
holds (Unary' Not _ a _) s = holds a s → ⊥
holds (Unary' IsEmpty _ a _) s = (i : ℕ) → has (set_of (value a s)) i ≡ true → ⊥
holds (Binary' Iff _ a _ _ b _) s = (holds a s → holds b s) × (holds b s → holds a s)
holds (Binary' Implies _ a _ _ b _) s = holds a s → holds b s
holds (Binary' Or _ a _ _ b _) s = holds a s ⊎ holds b s
holds (Binary' And _ a _ _ b _) s = holds a s × holds b s
holds (Binary' In _ a _ _ b _) s = has (set_of (value b s)) (place_of (value a s)) ≡ true
holds (Binary' NotIn _ a _ _ b _) s = has (set_of (value b s)) (place_of (value a s)) ≡ true → ⊥
holds (Binary' Sub _ a _ _ b _) s = (i : ℕ) → has (set_of (value a s)) i ≡ true → has (set_of (value b s)) i ≡ true
holds (Binary' Equal _ a _ _ b _) s = Same (value a s) (value b s)
holds (Binary' Differs _ a _ _ b _) s = Same (value a s) (value b s) → ⊥
holds (Binary' Less _ a _ _ b _) s = Ordered (around s.space) (place_of (value a s) < place_of (value b s))
holds (Binary' AtMost _ a _ _ b _) s = Ordered (around s.space) (place_of (value a s) ≤ place_of (value b s))
holds (Binary' Greater _ a _ _ b _) s = Ordered (around s.space) (place_of (value b s) < place_of (value a s))
holds (Binary' AtLeast _ a _ _ b _) s = Ordered (around s.space) (place_of (value b s) ≤ place_of (value a s))
holds (Bound' q sort names _ a _) s = quantified q sort names.items (λ z. holds a z) s
holds (Call' f shape all) s = s.says (string_bytes f.text) (values all s)
holds (Count' _ a _ m r) s = (t : ℕ) × (how_many (set_of (value a s)) ≡ t * m.kind + r.kind)
holds _ s = ⊥

-- a predicate says of its arguments what its body says of its parameters, where it is declared
abbrev pub bind_all : List Parameter → List Value → Context → Context
bind_all [] vs s = s
bind_all (p ∷ ps) [] s = s
bind_all (p ∷ ps) (v ∷ vs) s = bind_all ps vs (bind p.name v s)

abbrev pub says_of : Predicate → Context → List Value → Type 0
says_of p s vs = holds p.body.kind (bind_all p.parameters.items vs s)

abbrev pub either : Bool → Type 0 → Type 0 → Type 0
either true p q = p
either _ p q = q

abbrev pub define : Predicate → Context → Context
define p s = record { value = s.value; says = λ y vs. either (bytes_eq (string_bytes p.name.text) y) (says_of p s vs) (s.says y vs); space = s.space }

-- declared names stand for the places and sets that e gives them, numbered from n on in the order of declaration
abbrev pub given : Sort → ℕ → Env → Value
given Place n e = place (e.places n)
given Set n e = set (e.groups n)

abbrev pub declare : Sort → List Name → ℕ → Env → Context → Context
declare sort [] n e s = s
declare sort (x ∷ xs) n e s = declare sort xs (suc n) e (bind x (given sort n e) s)

abbrev pub count : ℕ → List Name → ℕ
count n [] = n
count n (x ∷ xs) = count (suc n) xs

-- from here on these places are those of a row, of which the last has a name, on the row without places place 0; or those of a ring
abbrev pub ending : Ends → List Bool → Context → Context
ending (Last x) u s = placed (the_row u) (bind x (place (highest u)) s)
ending Round u s = placed (the_ring u) s

-- from here on a row or a ring is spoken of: the set of its places, which is declared with the number n, and how they end
abbrev pub in_row : RowNames → ℕ → Env → Context → Context
in_row r n e s = ending r.ends (e.groups n) (bind r.places (set (e.groups n)) s)

-- what is assumed of the declared names, and what is claimed
pub record Text : Type 1 where
  pub assumed : Type 0
  pub claimed : Type 0

abbrev pub text_from : List Item → ℕ → Env → Context → Text
text_from [] n e s = record { assumed = Unit {0}; claimed = Unit {0} }
text_from (Free sort names ∷ items) n e s = text_from items (count n names.items) e (declare sort names.items n e s)
text_from (Row r ∷ items) n e s = text_from items (suc n) e (in_row r n e s)
text_from (defined p ∷ items) n e s = text_from items n e (define p s)
text_from (Assert a ∷ items) n e s = let rest = text_from items n e s in record { assumed = holds a.kind s × rest.assumed; claimed = rest.claimed }
text_from (Formula a ∷ items) n e s = let rest = text_from items n e s in record { assumed = rest.assumed; claimed = holds a.kind s × rest.claimed }

abbrev pub text : List Item → Env → Text
text items e = text_from items 0 e nothing
