-- Where the claim of a formula, or of its opposite, is said to be sure of a place, it holds only if the place's set is a place.
use Rattle.std.proofs.Common.{◌≡◌, ℕ, Bool, true, false, not, ◌&&◌, ◌||◌, ◌==◌, ◌∷◌, ◌++◌, Option, Some, None, sym, refl, ap, subst, inl, inr, arith}
use mathlib.Core.Bool.{false≢true}
use Rattle.std.specs.Prelude.{is_none}
use Rattle.std.proofs.lemmas.Bool.Decides.{eqb_tells}
use Rattle.claims.specs.Claims.{C, and1, before}
use Rattle.kinds.specs.declared.relation.Relation.{Relation}
use Rattle.formulas.specs.declared.name.Name.{Name}
use Rattle.formulas.specs.declared.name.Name.TheVariants.{OfPlace, OfGroup}
use Rattle.formulas.specs.declared.formula.Place.{Place}
use Rattle.formulas.specs.declared.formula.Place.TheVariants.{Named as place}
use Rattle.formulas.specs.declared.formula.Formula.{Formula}
use Rattle.formulas.specs.declared.formula.Formula.TheVariants.{True, Same, Less, In, Sub, Count, Not', And', Or', Implies', Some1', All1', Some2', All2'}
use Rattle.formulas.specs.Names.{names_place, names_group, names, without, Among}
use Rattle.formulas.proofs.NamesLaws.{among_left, among_right, among_without}
use Rattle.formulas.proofs.SetsLaws.{or_true, and_true}
use Rattle.translation.specs.Numbers.{Numbering, numbered, numbers, fresh}
use Rattle.translation.specs.OnePlace.{is_named, relation_of}
use Rattle.translation.specs.Translation.{some_place, is_sure, is_sure_in, sure_same, sure, about, is_place, is_in, is_same, relation_or, claim_as}
use Rattle.translation.proofs.NumbersLaws.{among_number, fresh_free}
use Rattle.translation.proofs.OnePlaceLaws.{equal, named_is}
use Rattle.translation.proofs.Connectives.{Sure, sure_left, sure_right, some_sure, some_place_sure}
use Rattle.translation.proofs.Terms.{fresh_tail, place_sure, group_sure, before_first, before_second}

pub name_apart : {x y : ℕ} → OfPlace x ≡ OfGroup y → ⊥
name_apart e = let z : ◌≡◌ {A = ℕ} 0 1 = cc in omega arith

-- tests
unequal : (x y : ℕ) → not (x == y) ≡ true → ((x == y) ≡ false) × (OfPlace x ≡ OfPlace y → ⊥)
unequal x y q = elim (eqb_tells x y) [ inl r ↦ let z : not true ≡ true = rw r.0 at q in absurd (false≢true z) | inr r ↦ (r.0, λ e. r.1 (cc)) ]

named_among : (x : ℕ) (p : Place) → is_named x p ≡ true → Among (OfPlace x) (names_place p)
named_among x (place y) q = inl (ap OfPlace (sym (equal y x q)))
named_among x p q = absurd (false≢true q)

-- the place is one of the formula's names
same_among : (x : ℕ) (p q : Place) → sure_same x p q ≡ true → Among (OfPlace x) (names_place p ++ names_place q)
same_among x (place y) q h = let r = (and_true (y == x) (is_sure q)).1 h in inl (ap OfPlace (sym (equal y x r.0)))
same_among x p q h = let r = (and_true (is_named x q) (is_sure p)).1 h in among_right (OfPlace x) (names_place p) (names_place q) (named_among x q r.0)

pub sure_among : (a : Formula) (b : Bool) (x : ℕ) → sure a b x ≡ true → Among (OfPlace x) (names a)
sure_among True b x q = absurd (false≢true q)
sure_among (Same s t) true x q = same_among x s t q
sure_among (Same s t) false x q = absurd (false≢true q)
sure_among (Less s t) true x q = elim ((or_true (is_named x s) (is_named x t)).1 q) [
  | inl r ↦ among_left (OfPlace x) (names_place s) (names_place t) (named_among x s r)
  | inr r ↦ among_right (OfPlace x) (names_place s) (names_place t) (named_among x t r)
]
sure_among (Less s t) false x q = absurd (false≢true q)
sure_among (In t s) true x q = among_left (OfPlace x) (names_place t) (names_group s) (named_among x t ((and_true (is_named x t) (is_sure_in s)).1 q).0)
sure_among (In t s) false x q = absurd (false≢true q)
sure_among (Sub s t) b x q = absurd (false≢true q)
sure_among (Count s r) b x q = absurd (false≢true q)
sure_among (Not' _ a) b x q = sure_among a (not b) x q
sure_among (And' _ a _ c) true x q = elim ((or_true (sure a true x) (sure c true x)).1 q) [
  | inl r ↦ among_left (OfPlace x) (names a) (names c) (sure_among a true x r)
  | inr r ↦ among_right (OfPlace x) (names a) (names c) (sure_among c true x r)
]
sure_among (And' _ a _ c) false x q = absurd (false≢true q)
sure_among (Or' _ a _ c) true x q = absurd (false≢true q)
sure_among (Or' _ a _ c) false x q = elim ((or_true (sure a false x) (sure c false x)).1 q) [
  | inl r ↦ among_left (OfPlace x) (names a) (names c) (sure_among a false x r)
  | inr r ↦ among_right (OfPlace x) (names a) (names c) (sure_among c false x r)
]
sure_among (Implies' _ a _ c) true x q = absurd (false≢true q)
sure_among (Implies' _ a _ c) false x q = elim ((or_true (sure a true x) (sure c false x)).1 q) [
  | inl r ↦ among_left (OfPlace x) (names a) (names c) (sure_among a true x r)
  | inr r ↦ among_right (OfPlace x) (names a) (names c) (sure_among c false x r)
]
sure_among (Some1' y _ a) true x q =
    let p = (and_true (is_none (relation_of y a)) (not (x == y) && sure a true x)).1 q in
    let r = (and_true (not (x == y)) (sure a true x)).1 p.1 in
    among_without (OfPlace y) (OfPlace x) (names a) (unequal x y r.0).1 (sure_among a true x r.1)
sure_among (Some1' y _ a) false x q = absurd (false≢true q)
sure_among (All1' y _ a) true x q = absurd (false≢true q)
sure_among (All1' y _ a) false x q = let r = (and_true (not (x == y)) (sure a false x)).1 q in among_without (OfPlace y) (OfPlace x) (names a) (unequal x y r.0).1 (sure_among a false x r.1)
sure_among (Some2' y _ a) true x q = among_without (OfGroup y) (OfPlace x) (names a) (λ e. name_apart e) (sure_among a true x q)
sure_among (Some2' y _ a) false x q = absurd (false≢true q)
sure_among (All2' y _ a) true x q = absurd (false≢true q)
sure_among (All2' y _ a) false x q = among_without (OfGroup y) (OfPlace x) (names a) (λ e. name_apart e) (sure_among a false x q)

-- the number that a quantifier gives is not the place's
bound_apart : (y : Name) (a : Formula) (ρ : Numbering) (x : ℕ) → (OfPlace x ≡ y → ⊥) → Among (OfPlace x) (names a) → ρ (OfPlace x) ≡ fresh (numbers ρ (without y (names a))) → ⊥
bound_apart y a ρ x d h e =
    let l = without y (names a) in
    fresh_free (numbers ρ l) (subst (λ n. Among n (numbers ρ l)) e (among_number ρ (OfPlace x) l (among_without y (OfPlace x) (names a) d h)))

pub about_sure : (p : Place) (ρ : Numbering) (m n : ℕ) (c : C) (b : Bool) (d : ℕ → C) → (n ≡ m → ⊥) → ((a : ℕ) → Sure n (d a)) → Sure n (about ρ p m c b d)
about_sure (place x) ρ m n c b d z h = h (ρ (OfPlace x))
about_sure p ρ m n c b d z h = some_place_sure (is_sure p || b) m n (and1 c (d m)) z (sure_right c (h m))

-- by the name of the place that is said to be the other
at_name : (x y : ℕ) (ρ : Numbering) (c : C) → (y == x) ≡ true → Sure (ρ (OfPlace y)) c → Sure (ρ (OfPlace x)) c
at_name x y ρ c q u = subst (λ z. Sure (ρ (OfPlace z)) c) (equal y x q) u

about_named : (x : ℕ) (p : Place) (ρ : Numbering) (m : ℕ) (c : C) (b : Bool) (d : ℕ → C) → is_named x p ≡ true → Sure (ρ (OfPlace x)) (d (ρ (OfPlace x))) → Sure (ρ (OfPlace x)) (about ρ p m c b d)
about_named x p ρ m c b d q u = subst (λ z. Sure (ρ (OfPlace x)) (about ρ z m c b d)) (sym (named_is x p q)) u

same_sure : (x : ℕ) (p q : Place) (ρ : Numbering) (m : ℕ) → sure_same x p q ≡ true → Sure (ρ (OfPlace x)) (is_same ρ p q m)
same_sure x (place y) q ρ m h =
    let r = (and_true (y == x) (is_sure q)).1 h in
    at_name x y ρ (is_place q ρ (ρ (OfPlace y))) r.0 (place_sure q ρ (ρ (OfPlace y)) r.1)
same_sure x p q ρ m h =
    let r = (and_true (is_named x q) (is_sure p)).1 h in
    about_named x q ρ m (is_place q ρ m) (is_sure p) (λ b. is_place p ρ b) r.0 (place_sure p ρ (ρ (OfPlace x)) r.1)

-- m and n are none of the numbers of the places
less_sure : (x : ℕ) (p q : Place) (ρ : Numbering) (m n : ℕ) → (ρ (OfPlace x) ≡ m → ⊥) → (ρ (OfPlace x) ≡ n → ⊥) → (is_named x p || is_named x q) ≡ true →
    Sure (ρ (OfPlace x)) (about ρ p m (is_place p ρ m) true (λ a. about ρ q n (is_place q ρ n) true (λ b. before a b)))
less_sure x p q ρ m n d g h =
    let k = ρ (OfPlace x) in
    elim ((or_true (is_named x p) (is_named x q)).1 h) [
      | inl r ↦ about_named x p ρ m (is_place p ρ m) true (λ a. about ρ q n (is_place q ρ n) true (λ b. before a b)) r
          (about_sure q ρ n k (is_place q ρ n) true (λ b. before k b) g (λ b. before_first k b))
      | inr r ↦ about_sure p ρ m k (is_place p ρ m) true (λ a. about ρ q n (is_place q ρ n) true (λ b. before a b)) d
          (λ a. about_named x q ρ n (is_place q ρ n) true (λ b. before a b) r (before_second a k))
    ]

-- another place keeps its number; the place itself gets set m
beside : (x y m : ℕ) (ρ : Numbering) (c : C) → not (x == y) ≡ true → Sure (numbered ρ (OfPlace y) m (OfPlace x)) c → Sure (ρ (OfPlace x)) c
beside x y m ρ c q u = rw (unequal x y q).0 at u

here : (x m : ℕ) (ρ : Numbering) → numbered ρ (OfPlace x) m (OfPlace x) ≡ m
here x m ρ = elim (eqb_tells x x) [ inl q ↦ rw q.0 | inr q ↦ absurd (q.1 refl) ]

no_relation : (p : Option Relation) (ρ : Numbering) (c : C) (n : ℕ) → is_none p ≡ true → Sure n c → Sure n (relation_or p ρ c)
no_relation None ρ c n q u = u
no_relation (Some a) ρ c n q u = absurd (false≢true q)

pub sure_says : (a : Formula) (b : Bool) (x : ℕ) (ρ : Numbering) → sure a b x ≡ true → Sure (ρ (OfPlace x)) (claim_as a b ρ)
sure_says True b x ρ q = absurd (false≢true q)
sure_says (Same s t) true x ρ q = same_sure x s t ρ (fresh (numbers ρ (names_place s ++ names_place t))) q
sure_says (Same s t) false x ρ q = absurd (false≢true q)
sure_says (Less s t) true x ρ q =
    let k = names_place s ++ names_place t in
    let l = numbers ρ k in
    let m = fresh l in
    let here : Among (ρ (OfPlace x)) l = among_number ρ (OfPlace x) k (sure_among (Less s t) true x q) in
    less_sure x s t ρ m (fresh (m ∷ l)) (λ e. fresh_free l (subst (λ n. Among n l) e here)) (λ e. fresh_tail m l (subst (λ n. Among n l) e here)) q
sure_says (Less s t) false x ρ q = absurd (false≢true q)
sure_says (In t s) true x ρ q =
    let m = fresh (numbers ρ (names_place t ++ names_group s)) in
    let r = (and_true (is_named x t) (is_sure_in s)).1 q in
    about_named x t ρ m (is_place t ρ m) (is_sure_in s) (λ a. is_in s ρ a) r.0 (group_sure s ρ (ρ (OfPlace x)) r.1)
sure_says (In t s) false x ρ q = absurd (false≢true q)
sure_says (Sub s t) b x ρ q = absurd (false≢true q)
sure_says (Count s r) b x ρ q = absurd (false≢true q)
sure_says (Not' _ a) b x ρ q = sure_says a (not b) x ρ q
sure_says (And' _ a _ c) true x ρ q = elim ((or_true (sure a true x) (sure c true x)).1 q) [
  | inl r ↦ sure_left (claim_as c true ρ) (sure_says a true x ρ r)
  | inr r ↦ sure_right (claim_as a true ρ) (sure_says c true x ρ r)
]
sure_says (And' _ a _ c) false x ρ q = absurd (false≢true q)
sure_says (Or' _ a _ c) true x ρ q = absurd (false≢true q)
sure_says (Or' _ a _ c) false x ρ q = elim ((or_true (sure a false x) (sure c false x)).1 q) [
  | inl r ↦ sure_left (claim_as c false ρ) (sure_says a false x ρ r)
  | inr r ↦ sure_right (claim_as a false ρ) (sure_says c false x ρ r)
]
sure_says (Implies' _ a _ c) true x ρ q = absurd (false≢true q)
sure_says (Implies' _ a _ c) false x ρ q = elim ((or_true (sure a true x) (sure c false x)).1 q) [
  | inl r ↦ sure_left (claim_as c false ρ) (sure_says a true x ρ r)
  | inr r ↦ sure_right (claim_as a true ρ) (sure_says c false x ρ r)
]
sure_says (Some1' y _ a) true x ρ q =
    let m = fresh (numbers ρ (without (OfPlace y) (names a))) in
    let c = some_place (sure a true y) m (claim_as a true (numbered ρ (OfPlace y) m)) in
    let p = (and_true (is_none (relation_of y a)) (not (x == y) && sure a true x)).1 q in
    let r = (and_true (not (x == y)) (sure a true x)).1 p.1 in
    no_relation (relation_of y a) ρ c (ρ (OfPlace x)) p.0 (some_place_sure (sure a true y) m (ρ (OfPlace x)) (claim_as a true (numbered ρ (OfPlace y) m))
    (bound_apart (OfPlace y) a ρ x (unequal x y r.0).1 (sure_among a true x r.1)) (beside x y m ρ (claim_as a true (numbered ρ (OfPlace y) m)) r.0 (sure_says a true x (numbered ρ (OfPlace y) m) r.1)))
sure_says (Some1' y _ a) false x ρ q = absurd (false≢true q)
sure_says (All1' y _ a) true x ρ q = absurd (false≢true q)
sure_says (All1' y _ a) false x ρ q =
    let m = fresh (numbers ρ (without (OfPlace y) (names a))) in
    let r = (and_true (not (x == y)) (sure a false x)).1 q in
    some_place_sure (sure a false y) m (ρ (OfPlace x)) (claim_as a false (numbered ρ (OfPlace y) m))
    (bound_apart (OfPlace y) a ρ x (unequal x y r.0).1 (sure_among a false x r.1)) (beside x y m ρ (claim_as a false (numbered ρ (OfPlace y) m)) r.0 (sure_says a false x (numbered ρ (OfPlace y) m) r.1))
sure_says (Some2' y _ a) true x ρ q =
    let m = fresh (numbers ρ (without (OfGroup y) (names a))) in
    some_sure m (ρ (OfPlace x)) (claim_as a true (numbered ρ (OfGroup y) m)) (bound_apart (OfGroup y) a ρ x (λ e. name_apart e) (sure_among a true x q)) (sure_says a true x (numbered ρ (OfGroup y) m) q)
sure_says (Some2' y _ a) false x ρ q = absurd (false≢true q)
sure_says (All2' y _ a) true x ρ q = absurd (false≢true q)
sure_says (All2' y _ a) false x ρ q =
    let m = fresh (numbers ρ (without (OfGroup y) (names a))) in
    some_sure m (ρ (OfPlace x)) (claim_as a false (numbered ρ (OfGroup y) m)) (bound_apart (OfGroup y) a ρ x (λ e. name_apart e) (sure_among a false x q)) (sure_says a false x (numbered ρ (OfGroup y) m) q)

-- of the place that a quantifier binds, as set m
pub bound_sure : (a : Formula) (b : Bool) (x m : ℕ) (ρ : Numbering) → sure a b x ≡ true → Sure m (claim_as a b (numbered ρ (OfPlace x) m))
bound_sure a b x m ρ q =
    let g = numbered ρ (OfPlace x) m in
    subst (λ k. Sure k (claim_as a b g)) (here x m ρ) (sure_says a b x g q)
