-- A scope whose terms do not depend on the names from a number on says the same whatever these stand for.
use Rattle.std.proofs.Common.{◌≡◌, ℕ, suc, Bool, ◌↔◌, Option, Some, None, is_some, List, ◌∷◌, sym, refl, ap, ◌∙◌, subst, arith}
use Rattle.trees.specs.declared.tree.Name.{Name}
use Rattle.trees.specs.declared.tree.ExprKind.{ExprKind}
use Rattle.formulas.specs.Meaning.{Env, with_place, with_group}
use Rattle.trees.specs.declared.tree.Sort.{Sort}
use Rattle.trees.specs.declared.tree.Sort.TheVariants.{Place as OfPlace, Set as OfSet}
use Rattle.trees.specs.declared.tree.Quantifier.{Quantifier}
use Rattle.trees.specs.declared.tree.Quantifier.TheVariants as quantifier
use Rattle.resolve.specs.Spaces.{bounds, around}
use Rattle.resolve.specs.Faults.{shape_of}
use Rattle.resolve.specs.declared.scope.Shape.TheVariants.{Row as AsRow, Ring as AsRing}
use Rattle.resolve.specs.Says.{Context, value, place, set, bind, placed, define, given, SomePlace, EachPlace, SomeSet, EachSet, quantified}
use Rattle.resolve.specs.declared.scope.Term.{Term}
use Rattle.resolve.specs.declared.scope.Scope.{Scope}
use Rattle.resolve.specs.declared.scope.Scope.TheVariants.{Outermost, Named', Row', Defined'}
use Rattle.resolve.specs.Scopes.{meant, context, signature, space_of, row_of, ring_of, places_of, Agree, Settled, Steady, IsBelow, OverAll}
use Rattle.resolve.proofs.Iff.{iff_trans}
use Rattle.resolve.proofs.Chosen.{other, this}
use Rattle.resolve.proofs.BoundsLaws.{some_place_iff, each_place_iff, some_set_iff, each_set_iff}

pub context_same : (n : ℕ) (s : Scope) (e f : Env) → Steady n s → Agree n e f → context s e ≡ context s f
context_same n Outermost e f h a = refl
context_same n (Named' x t _ outer) e f h a =
    ap (λ v. bind x.now v (context outer e)) (h.0 e f a) ∙ ap (λ c. bind x.now (meant t.now f) c) (context_same n outer e f h.1 a)
context_same n (Row' m s _ outer) e f h a = ap (λ u. placed (space_of s u) (context outer e)) (a m h.0).1 ∙ ap (λ c. placed (space_of s (f.groups m)) c) (context_same n outer e f h.1 a)
context_same n (Defined' p _ outer) e f h a = ap (λ c. define p.now c) (context_same n outer e f h a)

pub settled : (n : ℕ) (s : Scope) (x : ExprKind) (t : Term) → Steady n s → ((e : Env) → value x (context s e) ≡ meant t e) → Settled n t
settled n s x t h is = λ e f a. sym (is e) ∙ ap (λ c. value x c) (context_same n s e f h a) ∙ is f

wider : (n : ℕ) (e f : Env) → Agree (suc n) e f → Agree n e f
wider n e f a = λ x l. a x (omega arith)

pub steady_more : (n : ℕ) (s : Scope) → Steady n s → Steady (suc n) s
steady_more n Outermost h = tt
steady_more n (Named' x t _ outer) h = (λ e f a. h.0 e f (wider n e f a), steady_more n outer h.1)
steady_more n (Row' m s _ outer) h = (let l = h.0 in omega arith, steady_more n outer h.1)
steady_more n (Defined' p _ outer) h = steady_more n outer h

pub at_place : (n : ℕ) (s : Scope) (x : Name) (i : ℕ) (e : Env) → Steady n s →
    bind x (place ((with_place e n i).places n)) (context s (with_place e n i)) ≡ bind x (place i) (context s e)
at_place n s x i e h =
    ap (λ j. bind x (place j) (context s (with_place e n i))) (this n i (e.places n))
    ∙ ap (λ c. bind x (place i) c) (context_same n s (with_place e n i) e h (λ y l. (other y n i (e.places y) l, refl)))

pub at_set : (n : ℕ) (s : Scope) (x : Name) (u : List Bool) (e : Env) → Steady n s →
    bind x (set ((with_group e n u).groups n)) (context s (with_group e n u)) ≡ bind x (set u) (context s e)
at_set n s x u e h =
    ap (λ j. bind x (set j) (context s (with_group e n u))) (this n u (e.groups n))
    ∙ ap (λ c. bind x (set u) c) (context_same n s (with_group e n u) e h (λ y l. (refl, other y n u (e.groups y) l)))

pub along : (F : Context → Type 0) (c d : Context) → c ≡ d → F c ↔ F d
along F c d e = (λ h. subst F e h, λ h. subst F (sym e) h)

-- a scope tells the places of the row or the ring by their number
pub row_is : (s : Scope) (e : Env) → bounds (context s e).space ≡ places_of (row_of s) e
row_is Outermost e = refl
row_is (Named' x t _ outer) e = row_is outer e
row_is (Row' m AsRow _ outer) e = refl
row_is (Row' m AsRing _ outer) e = refl
row_is (Defined' p _ outer) e = row_is outer e

-- and those of the ring
pub ring_is : (s : Scope) (e : Env) → around (context s e).space ≡ places_of (ring_of s) e
ring_is Outermost e = refl
ring_is (Named' x t _ outer) e = ring_is outer e
ring_is (Row' m AsRow _ outer) e = refl
ring_is (Row' m AsRing _ outer) e = refl
ring_is (Defined' p _ outer) e = ring_is outer e

-- what has the number of a ring is one
pub ring_shape : (s : Scope) (n : ℕ) → ring_of s ≡ Some n → shape_of (signature s) ≡ Some AsRing
ring_shape Outermost n e = cc
ring_shape (Named' x t _ outer) n e = ring_shape outer n e
ring_shape (Row' m AsRow _ outer) n e = cc
ring_shape (Row' m AsRing _ outer) n e = refl
ring_shape (Defined' p _ outer) n e = ring_shape outer n e

pub row_shape : (s : Scope) → is_some (shape_of (signature s)) ≡ is_some (row_of s)
row_shape Outermost = refl
row_shape (Named' x t _ outer) = row_shape outer
row_shape (Row' m s _ outer) = refl
row_shape (Defined' p _ outer) = row_shape outer

pub in_row_is : (s : Scope) (e : Env) → is_some (bounds (context s e).space) ≡ is_some (row_of s)
in_row_is s e = ap is_some (row_is s e) ∙ (known (row_of s))
  where
    known : (o : Option ℕ) → is_some (places_of o e) ≡ is_some o
    known None = refl
    known (Some n) = refl

-- the row's number is below what the terms do not depend on
pub row_below : (n : ℕ) (s : Scope) → Steady n s → IsBelow n (row_of s)
row_below n Outermost h = tt
row_below n (Named' x t _ outer) h = row_below n outer h.1
row_below n (Row' m s _ outer) h = h.0
row_below n (Defined' p _ outer) h = row_below n outer h

-- what is said of one more bound name
pub quantified_says : (q : Quantifier) (sort : Sort) (n : ℕ) (s : Scope) (x : Name) (xs : List Name) (F : Context → Type 0) (P : Env → Type 0) → Steady n s →
    ((e : Env) → P e ↔ quantified q sort xs F (bind x (given sort n e) (context s e))) →
    (e : Env) → OverAll q sort n (row_of s) P e ↔ quantified q sort (x ∷ xs) F (context s e)
quantified_says quantifier.Some OfPlace n s x xs F P h is e =
    let one : (i : ℕ) → P (with_place e n i) ↔ quantified quantifier.Some OfPlace xs F (bind x (place i) (context s e)) =
    λ i. iff_trans (is (with_place e n i)) (along (quantified quantifier.Some OfPlace xs F) _ _ (at_place n s x i e h)) in
    subst (λ r. SomePlace (places_of (row_of s) e) (λ i. P (with_place e n i)) ↔ SomePlace r (λ i. quantified quantifier.Some OfPlace xs F (bind x (place i) (context s e)))) (sym (row_is s e)) (some_place_iff (places_of (row_of s) e) one)
quantified_says quantifier.Some OfSet n s x xs F P h is e =
    let one : (u : List Bool) → P (with_group e n u) ↔ quantified quantifier.Some OfSet xs F (bind x (set u) (context s e)) =
    λ u. iff_trans (is (with_group e n u)) (along (quantified quantifier.Some OfSet xs F) _ _ (at_set n s x u e h)) in
    subst (λ r. SomeSet (places_of (row_of s) e) (λ u. P (with_group e n u)) ↔ SomeSet r (λ u. quantified quantifier.Some OfSet xs F (bind x (set u) (context s e)))) (sym (row_is s e)) (some_set_iff (places_of (row_of s) e) one)
quantified_says quantifier.All OfPlace n s x xs F P h is e =
    let one : (i : ℕ) → P (with_place e n i) ↔ quantified quantifier.All OfPlace xs F (bind x (place i) (context s e)) =
    λ i. iff_trans (is (with_place e n i)) (along (quantified quantifier.All OfPlace xs F) _ _ (at_place n s x i e h)) in
    subst (λ r. EachPlace (places_of (row_of s) e) (λ i. P (with_place e n i)) ↔ EachPlace r (λ i. quantified quantifier.All OfPlace xs F (bind x (place i) (context s e)))) (sym (row_is s e)) (each_place_iff (places_of (row_of s) e) one)
quantified_says quantifier.All OfSet n s x xs F P h is e =
    let one : (u : List Bool) → P (with_group e n u) ↔ quantified quantifier.All OfSet xs F (bind x (set u) (context s e)) =
    λ u. iff_trans (is (with_group e n u)) (along (quantified quantifier.All OfSet xs F) _ _ (at_set n s x u e h)) in
    subst (λ r. EachSet (places_of (row_of s) e) (λ u. P (with_group e n u)) ↔ EachSet r (λ u. quantified quantifier.All OfSet xs F (bind x (set u) (context s e)))) (sym (row_is s e)) (each_set_iff (places_of (row_of s) e) one)
