-- What sets are where their names are places and sets, and what stays where a name is bound. Claims that hold only where a set has one place.
use Rattle.std.proofs.Common.{◌≡◌, ℕ, Bool, true, false, cond, ◌==◌, List, sym, refl, ap, ◌∙◌, subst, inl, inr, suc}
use mathlib.Core.Bool.{false≢true}
use Rattle.std.proofs.lemmas.Bool.Decides.{eqb_tells}
use Rattle.words.specs.Words.{Sets}
use Rattle.kinds.specs.Meaning.{related}
use Rattle.kinds.specs.Relations.{Only, Relates}
use Rattle.kinds.specs.declared.atom.Atom.TheVariants.{Related, Counted}
use Rattle.kinds.specs.declared.relation.Relation.{Relation}
use Rattle.kinds.specs.declared.relation.Relation.TheVariants.{Within, Single, Next, Before}
use Rattle.claims.specs.Claims.{C, atom, not1, and1, some, Holds, has, put}
use Rattle.claims.specs.Places.{one}
use Rattle.claims.proofs.PlacesLaws.{has_one, one_has, put_same, only_put}
use Rattle.formulas.specs.Meaning.{Env, with_place, with_group}
use Rattle.formulas.proofs.SetsLaws.{or_true}
use Rattle.claim_formula.specs.Forced.{relation_forces, forces}
use Rattle.claim_formula.specs.Saying.{Stand, bound}

pub eq_is : (i j : ℕ) → i ≡ j → (i == j) ≡ true
eq_is i j e = elim (eqb_tells i j) [ inl p ↦ p.0 | inr p ↦ absurd (p.1 e) ]

pub is_eq : (i j : ℕ) → (i == j) ≡ true → i ≡ j
is_eq i j e = elim (eqb_tells i j) [ inl p ↦ p.1 | inr p ↦ absurd (false≢true (sym p.0 ∙ e)) ]

bool_is : (b c : Bool) → (b ≡ true → c ≡ true) → (c ≡ true → b ≡ true) → b ≡ c
bool_is true true f g = refl
bool_is true false f g = sym (f refl)
bool_is false true f g = g refl
bool_is false false f g = refl

-- a set that has place i alone
pub has_is : (u : List Bool) (i : ℕ) → has u i ≡ true → ((j : ℕ) → has u j ≡ true → j ≡ i) → (j : ℕ) → has u j ≡ (j == i)
has_is u i h o j = bool_is (has u j) (j == i) (λ g. eq_is j i (o j g)) (λ g. subst (λ z. has u z ≡ true) (sym (is_eq j i g)) h)

pub one_is : (i j : ℕ) → has (one i) j ≡ (j == i)
one_is i j = has_is (one i) i (has_one i) (one_has i) j

pub only_is : (v : Sets) (x : ℕ) (u : List Bool) (i : ℕ) → Only (put v x u) x i → (j : ℕ) → has u j ≡ (j == i)
only_is v x u i o j = has_is u i (sym (put_same v x u i) ∙ o.0) (λ k g. o.1 k (put_same v x u k ∙ g)) j

-- a place more, and a set more
pub stand_place : (σ : ℕ → Bool) (e : Env) (v : Sets) (x : ℕ) (u : List Bool) (i : ℕ) → ((j : ℕ) → has u j ≡ (j == i)) →
    Stand σ e v → Stand (bound σ x true) (with_place e x i) (put v x u)
stand_place σ e v x u i h s y j = elim (eqb_tells y x) [ inl p ↦ rw p.0 (h j) | inr p ↦ rw p.0 (s y j) ]

pub stand_group : (σ : ℕ → Bool) (e : Env) (v : Sets) (x : ℕ) (u : List Bool) → Stand σ e v → Stand (bound σ x false) (with_group e x u) (put v x u)
stand_group σ e v x u s y j = elim (eqb_tells y x) [ inl p ↦ rw p.0 refl | inr p ↦ rw p.0 (s y j) ]

-- the set of a place, and that of a set
pub at_place : (σ : ℕ → Bool) (e : Env) (v : Sets) (x : ℕ) → σ x ≡ true → Stand σ e v → (i : ℕ) → v x i ≡ (i == e.places x)
at_place σ e v x q s i = s x i ∙ ap (λ b. cond b (i == e.places x) (has (e.groups x) i)) q

pub at_group : (σ : ℕ → Bool) (e : Env) (v : Sets) (x : ℕ) → σ x ≡ false → Stand σ e v → (i : ℕ) → v x i ≡ has (e.groups x) i
at_group σ e v x q s i = s x i ∙ ap (λ b. cond b (i == e.places x) (has (e.groups x) i)) q

pub place_only : (σ : ℕ → Bool) (e : Env) (v : Sets) (x : ℕ) → σ x ≡ true → Stand σ e v → Only v x (e.places x)
place_only σ e v x q s = (
  at_place σ e v x q s (e.places x) ∙ eq_is (e.places x) (e.places x) refl,
  λ j h. is_eq j (e.places x) (sym (at_place σ e v x q s j) ∙ h),
)

-- a claim that says so holds only where set x has one place
relation_forced : (x : ℕ) (r : Relation) (v : Sets) → relation_forces x r ≡ true → Relates r v → (i : ℕ) × Only v x i
relation_forced x (Within y z) v f h = absurd (false≢true f)
relation_forced x (Single y) v f h = subst (λ z. (i : ℕ) × Only v z i) (sym (is_eq x y f)) h
relation_forced x (Next y z) v f h = elim ((or_true (x == y) (x == z)).1 f) [
  | inl g ↦ (h.0, subst (λ t. Only v t h.0) (sym (is_eq x y g)) h.1)
  | inr g ↦ (suc h.0, subst (λ t. Only v t (suc h.0)) (sym (is_eq x z g)) h.2)
]
relation_forced x (Before y z) v f h = elim ((or_true (x == y) (x == z)).1 f) [
  | inl g ↦ (h.0, subst (λ t. Only v t h.0) (sym (is_eq x y g)) h.2)
  | inr g ↦ (h.1, subst (λ t. Only v t h.1) (sym (is_eq x z g)) h.3)
]

pub forced : (x : ℕ) (c : C) (v : Sets) → forces x c ≡ true → Holds c v → (i : ℕ) × Only v x i
forced x (atom (Related r)) v f h = relation_forced x r v f ((related r v).0 h)
forced x (atom (Counted m)) v f h = absurd (false≢true f)
forced x (not1 c) v f h = absurd (false≢true f)
forced x (and1 c d) v f h = elim ((or_true (forces x c) (forces x d)).1 f) [ inl g ↦ forced x c v g h.0 | inr g ↦ forced x d v g h.1 ]
forced x (some y c) v f h = elim (eqb_tells x y) [
  | inl p ↦ absurd (false≢true (rw p.0 at f))
  | inr p ↦ let g : forces x c ≡ true = rw p.0 at f in
      let (i, o) = forced x c (put v y h.0) g h.1 in (i, (only_put v y h.0 x i p.1).1 o)
]
