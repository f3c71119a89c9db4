-- What a formula says that is found to say that a place is the one place of a set.
use Rattle.std.proofs.Common.{◌≡◌, ℕ, suc, ◌<◌, Bool, true, false, cond, ◌==◌, ◌↔◌, List, ◌⊎◌, Option, Some, None, sym, refl, ap, ◌∙◌, subst, inl, inr, arith}
use mathlib.Core.Bool.{false≢true}
use Rattle.std.proofs.lemmas.Bool.Decides.{eqb_tells}
use Rattle.words.specs.Words.{Sets}
use Rattle.claims.specs.Claims.{Holds, has}
use Rattle.kinds.specs.Relations.{Only}
use Rattle.claims.specs.Places.{one}
use Rattle.kinds.specs.Relations.{first, second}
use Rattle.kinds.specs.declared.relation.Relation.{Relation}
use Rattle.kinds.specs.declared.relation.Relation.TheVariants.{Within, Single, Next, Before}
use Rattle.formulas.specs.declared.name.Name.{Name}
use Rattle.formulas.specs.declared.name.Name.TheVariants.{OfPlace, OfGroup}
use Rattle.formulas.specs.declared.formula.Place.{Place}
use Rattle.formulas.specs.declared.formula.Group.{Group}
use Rattle.formulas.specs.declared.formula.Formula.{Formula}
use Rattle.formulas.specs.declared.formula.Place.TheVariants.{Named as place, Succ'}
use Rattle.formulas.specs.declared.formula.Group.TheVariants.{Named as group, Only'}
use Rattle.formulas.specs.declared.formula.Formula.TheVariants.{Less, In, Sub, And', Some1'}
use Rattle.formulas.specs.Meaning.{Env, with_place, value, members, Meaning}
use Rattle.formulas.specs.Names.{names_group, names, without, Among}
use Rattle.formulas.proofs.NamesLaws.{among_left, among_right, among_without}
use Rattle.formulas.proofs.SetsLaws.{and_true, one_says}
use Rattle.translation.specs.OnePlace.{is_named, is_at, is_only, name_of, no_other, has_place, agreed, first_of, point_of, single_of, two_of, next_of, is_less, points_of, ordered_of, before_of, relation_of, claim_of}
use Rattle.translation.specs.Numbers.{Numbering}
use Rattle.translation.proofs.Opened.{within_holds, single_holds, next_holds, before_holds}
use Rattle.translation.proofs.Standing.{Stand}

pub equal : (x y : ℕ) → (x == y) ≡ true → x ≡ y
equal x y q = elim (eqb_tells x y) [ inl r ↦ r.1 | inr r ↦ absurd (false≢true (sym r.0 ∙ q)) ]

pub named_is : (x : ℕ) (p : Place) → is_named x p ≡ true → p ≡ place x
named_is x (place y) q = ap place (equal y x q)
named_is x p q = absurd (false≢true q)

named_value : (x : ℕ) (p : Place) (e : Env) → is_named x p ≡ true → value p e ≡ e.places x
named_value x p e q = ap (λ z. value z e) (named_is x p q)

-- the place x, or the one behind it
abbrev pub place_at : Bool → ℕ → Env → ℕ
place_at behind x e = cond behind (suc (e.places x)) (e.places x)

at_value : (b : Bool) (x : ℕ) (p : Place) (e : Env) → is_at b x p ≡ true → value p e ≡ place_at b x e
at_value false x p e q = named_value x p e q
at_value true x (Succ' _ p) e q = ap suc (named_value x p e q)
at_value true x p e q = absurd (false≢true q)

only_members : (b : Bool) (x : ℕ) (s : Group) (e : Env) → is_only b x s ≡ true → members s e ≡ one (place_at b x e)
only_members b x (Only' _ p) e q = ap one (at_value b x p e q)
only_members b x s e q = absurd (false≢true q)

name_is : (s : Group) (y : ℕ) → name_of s ≡ Some y → s ≡ group y
name_is (group z) y q = ap group (cc)
name_is s y q = absurd (cc)

cond_some : {A : Type 0} (b : Bool) (p : Option A) (y : A) → cond b p None ≡ Some y → (b ≡ true) × (p ≡ Some y)
cond_some true p y q = (refl, q)
cond_some false p y q = absurd (cc)

agreed_some : (p q : Option ℕ) (y : ℕ) → agreed p q ≡ Some y → (p ≡ Some y) × (q ≡ Some y)
agreed_some (Some z) (Some w) y h =
    let r = cond_some (z == w) (Some z) y h in
    (r.1, ap Some (sym (equal z w r.0)) ∙ r.1)
agreed_some (Some z) None y h = absurd (cc)
agreed_some None q y h = absurd (cc)

no_other_says : (b : Bool) (x : ℕ) (a : Formula) (y : ℕ) (e : Env) → no_other b x a ≡ Some y → Meaning a e ↔ ((i : ℕ) → has (e.groups y) i ≡ true → i ≡ place_at b x e)
no_other_says b x (Sub s t) y e q =
    let k = place_at b x e in
    let r = cond_some (is_only b x t) (name_of s) y q in
    let u : members s e ≡ e.groups y = ap (λ z. members z e) (name_is s y r.1) in
    let w : members t e ≡ one k = only_members b x t e r.0 in (
      λ h i g. sym ((one_says k i).1 (subst (λ z. has z i ≡ true) w (h i (subst (λ z. has z i ≡ true) (sym u) g)))),
      λ h i g. subst (λ z. has z i ≡ true) (sym w) ((one_says k i).0 (sym (h i (subst (λ z. has z i ≡ true) u g)))),
    )
no_other_says b x a y e q = absurd (cc)

has_place_says : (b : Bool) (x : ℕ) (a : Formula) (y : ℕ) (e : Env) → has_place b x a ≡ Some y → Meaning a e ↔ (has (e.groups y) (place_at b x e) ≡ true)
has_place_says b x (Sub s t) y e q =
    let k = place_at b x e in
    let r = cond_some (is_only b x s) (name_of t) y q in
    let u : members t e ≡ e.groups y = ap (λ z. members z e) (name_is t y r.1) in
    let w : members s e ≡ one k = only_members b x s e r.0 in (
      λ h. subst (λ z. has z k ≡ true) u (h k (subst (λ z. has z k ≡ true) (sym w) ((one_says k k).0 refl))),
      λ h i g. subst (λ z. has z i ≡ true) (sym u) (subst (λ j. has (e.groups y) j ≡ true) ((one_says k i).1 (subst (λ z. has z i ≡ true) w g)) h),
    )
has_place_says b x (In t s) y e q =
    let k = place_at b x e in
    let r = cond_some (is_at b x t) (name_of s) y q in
    let u : members s e ≡ e.groups y = ap (λ z. members z e) (name_is s y r.1) in
    let w : value t e ≡ k = at_value b x t e r.0 in (
      λ h. subst (λ z. has z k ≡ true) u (subst (λ i. has (members s e) i ≡ true) w h),
      λ h. subst (λ i. has (members s e) i ≡ true) (sym w) (subst (λ z. has z k ≡ true) (sym u) h),
    )
has_place_says b x a y e q = absurd (cc)

first_some : {A : Type 0} (p q : Option A) (y : A) → first_of p q ≡ Some y → (p ≡ Some y) ⊎ (q ≡ Some y)
first_some (Some z) q y h = inl h
first_some None q y h = inr h

-- place i is the one place of the set that has the name y
abbrev pub IsPoint : Env → ℕ → ℕ → Type 0
IsPoint e y i = (has (e.groups y) i ≡ true) × ((j : ℕ) → has (e.groups y) j ≡ true → j ≡ i)

point_says : (b : Bool) (x : ℕ) (a : Formula) (y : ℕ) (e : Env) → point_of b x a ≡ Some y → Meaning a e ↔ IsPoint e y (place_at b x e)
point_says b x (And' _ a _ c) y e q = elim (first_some (agreed (no_other b x a) (has_place b x c)) (agreed (no_other b x c) (has_place b x a)) y q) [
  | inl g ↦ let r = agreed_some (no_other b x a) (has_place b x c) y g in
      let n = no_other_says b x a y e r.0 in let h = has_place_says b x c y e r.1 in
      (λ m. (h.0 m.1, n.0 m.0), λ m. (n.1 m.1, h.1 m.0))
  | inr g ↦ let r = agreed_some (no_other b x c) (has_place b x a) y g in
      let n = no_other_says b x c y e r.0 in let h = has_place_says b x a y e r.1 in
      (λ m. (h.0 m.0, n.0 m.1), λ m. (h.1 m.0, n.1 m.1))
]
point_says b x a y e q = absurd (cc)

-- and the set is one of the formula's names
no_other_among : (b : Bool) (x : ℕ) (a : Formula) (y : ℕ) → no_other b x a ≡ Some y → Among (OfGroup y) (names a)
no_other_among b x (Sub s t) y q =
    let r = cond_some (is_only b x t) (name_of s) y q in
    among_left (OfGroup y) (names_group s) (names_group t) (subst (λ z. Among (OfGroup y) (names_group z)) (sym (name_is s y r.1)) (inl refl))
no_other_among b x a y q = absurd (cc)

point_among : (b : Bool) (x : ℕ) (a : Formula) (y : ℕ) → point_of b x a ≡ Some y → Among (OfGroup y) (names a)
point_among b x (And' _ a _ c) y q = elim (first_some (agreed (no_other b x a) (has_place b x c)) (agreed (no_other b x c) (has_place b x a)) y q) [
  | inl g ↦ among_left (OfGroup y) (names a) (names c) (no_other_among b x a y (agreed_some (no_other b x a) (has_place b x c) y g).0)
  | inr g ↦ among_right (OfGroup y) (names a) (names c) (no_other_among b x c y (agreed_some (no_other b x c) (has_place b x a) y g).0)
]
point_among b x a y q = absurd (cc)

-- what the sets of those names are that a relation speaks of
abbrev pub RelationSays : Relation → Env → Type 0
RelationSays (Within y z) e = (i : ℕ) → has (e.groups y) i ≡ true → has (e.groups z) i ≡ true
RelationSays (Single y) e = (i : ℕ) × IsPoint e y i
RelationSays (Next y z) e = (i : ℕ) × IsPoint e y i × IsPoint e z (suc i)
RelationSays (Before y z) e = (i : ℕ) × (j : ℕ) × IsPoint e y i × IsPoint e z j × (i < j)

-- both of its sets are among the names
abbrev pub RelationNames : Relation → List Name → Type 0
RelationNames a l = Among (OfGroup (first a)) l × Among (OfGroup (second a)) l

place_now : (x i : ℕ) (e : Env) → (with_place e x i).places x ≡ i
place_now x i e = elim (eqb_tells x x) [ inl q ↦ rw q.0 | inr q ↦ absurd (q.1 refl) ]

-- where place i is taken for x
there : (x : ℕ) (a : Formula) (y i : ℕ) (e : Env) → point_of false x a ≡ Some y → Meaning a (with_place e x i) ↔ IsPoint e y i
there x a y i e q =
    let r = point_says false x a y (with_place e x i) q in
    let k = place_now x i e in
    (λ m. subst (IsPoint e y) k (r.0 m), λ m. r.1 (subst (IsPoint e y) (sym k) m))

behind_there : (x : ℕ) (a : Formula) (y i : ℕ) (e : Env) → point_of true x a ≡ Some y → Meaning a (with_place e x i) ↔ IsPoint e y (suc i)
behind_there x a y i e q =
    let r = point_says true x a y (with_place e x i) q in
    let k = ap suc (place_now x i e) in
    (λ m. subst (IsPoint e y) k (r.0 m), λ m. r.1 (subst (IsPoint e y) (sym k) m))

single_says : (x : ℕ) (a : Formula) (s : Relation) → single_of (point_of false x a) ≡ Some s → (y : ℕ) × (point_of false x a ≡ Some y) × (s ≡ Single y)
single_says x a s q = at (point_of false x a) refl q
  where
    at : (p : Option ℕ) → point_of false x a ≡ p → single_of p ≡ Some s → (y : ℕ) × (point_of false x a ≡ Some y) × (s ≡ Single y)
    at (Some y) e h = (y, e, cc)
    at None e h = absurd (cc)

two_some : (f : ℕ → ℕ → Relation) (p q : Option ℕ) (s : Relation) → two_of f p q ≡ Some s → (y : ℕ) × (z : ℕ) × (p ≡ Some y) × (q ≡ Some z) × (s ≡ f y z)
two_some f (Some y) (Some z) s h = (y, z, refl, refl, cc)
two_some f (Some y) None s h = absurd (cc)
two_some f None q s h = absurd (cc)

-- a relation that is found, and what a formula of which some place x is says
record Found (x : ℕ) (a : Formula) (s : Relation) : Type 0 where
  says : (e : Env) → ((i : ℕ) × Meaning a (with_place e x i)) ↔ RelationSays s e
  names : RelationNames s (without (OfPlace x) (names a))

not_place : (y x : ℕ) → OfGroup y ≡ OfPlace x → ⊥
not_place y x e = let z : ◌≡◌ {A = ℕ} 0 1 = cc in omega arith

kept : (x : ℕ) (a : Formula) (y : ℕ) → Among (OfGroup y) (names a) → Among (OfGroup y) (without (OfPlace x) (names a))
kept x a y h = among_without (OfPlace x) (OfGroup y) (names a) (not_place y x) h

found_single : (x : ℕ) (a : Formula) (s : Relation) → single_of (point_of false x a) ≡ Some s → Found x a s
found_single x a s q =
    let (y, p, e') = single_says x a s q in
    let among = kept x a y (point_among false x a y p) in
    subst (Found x a) (sym e') (record { says = λ e. (λ m. (m.0, (there x a y m.0 e p).0 m.1), λ m. (m.0, (there x a y m.0 e p).1 m.1)); names = (among, among) })

found_next : (x : ℕ) (a : Formula) (s : Relation) → next_of x a ≡ Some s → Found x a s
found_next x (And' ρ a σ c) s q =
    let (y, z, p, r, e') = two_some Next (point_of false x a) (point_of true x c) s q in
    subst (Found x (And' ρ a σ c)) (sym e') (record {
      says = λ e. (
        λ m. (let (i, n) = m in (i, (there x a y i e p).0 n.0, (behind_there x c z i e r).0 n.1)),
        λ m. (let (i, g, h) = m in (i, ((there x a y i e p).1 g, (behind_there x c z i e r).1 h))),
      );
      names = (
        kept x (And' ρ a σ c) y (among_left (OfGroup y) (names a) (names c) (point_among false x a y p)),
        kept x (And' ρ a σ c) z (among_right (OfGroup z) (names a) (names c) (point_among true x c z r)),
      );
    })
found_next x a s q = absurd (cc)

-- where place i is taken for x and place j for y
earlier : (x y i j : ℕ) (e : Env) → (x == y) ≡ false → (with_place (with_place e x i) y j).places x ≡ i
earlier x y i j e q = rw q (place_now x i e)

less_says : (x y : ℕ) (a : Formula) (e : Env) → is_less x y a ≡ true → Meaning a e ↔ (e.places x < e.places y)
less_says x y (Less p q) e h =
    let r = (and_true (is_named x p) (is_named y q)).1 h in
    let u = named_value x p e r.0 in let w = named_value y q e r.1 in
    (λ m. subst (λ j. e.places x < j) w (subst (λ i. i < value q e) u m), λ m. subst (λ i. i < value q e) (sym u) (subst (λ j. e.places x < j) (sym w) m))
less_says x y a e h = absurd (false≢true h)

pair_says : (x y : ℕ) (a c : Formula) (k l : ℕ) (i j : ℕ) (e : Env) → (x == y) ≡ false → point_of false x a ≡ Some k → point_of false y c ≡ Some l →
    (Meaning a (with_place (with_place e x i) y j) × Meaning c (with_place (with_place e x i) y j)) ↔ (IsPoint e k i × IsPoint e l j)
pair_says x y a c k l i j e d p q =
    let g = with_place (with_place e x i) y j in
    let u = point_says false x a k g p in let w = point_says false y c l g q in
    let at_x = earlier x y i j e d in let at_y = place_now y j (with_place e x i) in (
      λ m. (subst (IsPoint e k) at_x (u.0 m.0), subst (IsPoint e l) at_y (w.0 m.1)),
      λ m. (u.1 (subst (IsPoint e k) (sym at_x) m.0), w.1 (subst (IsPoint e l) (sym at_y) m.1)),
    )

-- the two sets of x and y, and what is said of them
record Pair (x y : ℕ) (a : Formula) (s : Relation) : Type 0 where
  k : ℕ
  l : ℕ
  is : s ≡ Before k l
  says : (i j : ℕ) (e : Env) → Meaning a (with_place (with_place e x i) y j) ↔ (IsPoint e k i × IsPoint e l j)
  k_among : Among (OfGroup k) (names a)
  l_among : Among (OfGroup l) (names a)

pair_of : (x y : ℕ) (a : Formula) (s : Relation) → (x == y) ≡ false → points_of x y a ≡ Some s → Pair x y a s
pair_of x y (And' ρ a σ c) s d q =
    let (k', l', p, r, e') = two_some Before (point_of false x a) (point_of false y c) s q in
    record {
      k = k';
      l = l';
      is = e';
      says = λ i j e. pair_says x y a c k' l' i j e d p r;
      k_among = among_left (OfGroup k') (names a) (names c) (point_among false x a k' p);
      l_among = among_right (OfGroup l') (names a) (names c) (point_among false y c l' r);
    }
pair_of x y a s d q = absurd (cc)

cond_none : {A : Type 0} (b : Bool) (p : Option A) (y : A) → cond b None p ≡ Some y → (b ≡ false) × (p ≡ Some y)
cond_none true p y q = absurd (cc)
cond_none false p y q = (refl, q)

-- the same of the pair and that x comes before y
found_ordered : (x y : ℕ) (b : Formula) (s : Relation) → (x == y) ≡ false → ordered_of x y b ≡ Some s →
    (k : ℕ) × (l : ℕ) × (s ≡ Before k l) × ((i j : ℕ) (e : Env) → Meaning b (with_place (with_place e x i) y j) ↔ (IsPoint e k i × IsPoint e l j × (i < j))) × Among (OfGroup k) (names b) × Among (OfGroup l) (names b)
found_ordered x y (And' ρ a σ c) s d q =
    let r = cond_some (is_less x y c) (points_of x y a) s q in
    let t = pair_of x y a s d r.1 in
    let says : (i j : ℕ) (e : Env) → (Meaning a (with_place (with_place e x i) y j) × Meaning c (with_place (with_place e x i) y j)) ↔ (IsPoint e t.k i × IsPoint e t.l j × (i < j)) = λ i j e. (let g = with_place (with_place e x i) y j in
    let u = less_says x y c g r.0 in
    let at_x = earlier x y i j e d in let at_y = place_now y j (with_place e x i) in (
      λ m. (let (f, h) = (t.says i j e).0 m.0 in (f, h, subst (λ n. i < n) at_y (subst (λ n. n < g.places y) at_x (u.0 m.1)))),
      λ m. (let (f, h, z) = m in ((t.says i j e).1 (f, h), u.1 (subst (λ n. n < g.places y) (sym at_x) (subst (λ n. i < n) (sym at_y) z)))),
    )) in
    (t.k, t.l, t.is, says, among_left (OfGroup t.k) (names a) (names c) t.k_among, among_left (OfGroup t.l) (names a) (names c) t.l_among)
found_ordered x y a s d q = absurd (cc)

found_before : (x : ℕ) (a : Formula) (s : Relation) → before_of x a ≡ Some s → Found x a s
found_before x (Some1' y ρ b) s q =
    let r = cond_none (x == y) (ordered_of x y b) s q in
    let (k, l, e', says', k_in, l_in) = found_ordered x y b s r.0 r.1 in
    let inner : (z : ℕ) → Among (OfGroup z) (names b) → Among (OfGroup z) (without (OfPlace y) (names b)) = λ z h. kept y b z h in
    subst (Found x (Some1' y ρ b)) (sym e') (record {
      says = λ e. (
        λ m. (let (i, t) = m in let (j, n) = t in let (f, h, z) = (says' i j e).0 n in (i, j, f, h, z)),
        λ m. (let (i, j, f, h, z) = m in (i, (j, (says' i j e).1 (f, h, z)))),
      );
      names = (kept x (Some1' y ρ b) k (inner k k_in), kept x (Some1' y ρ b) l (inner l l_in));
    })
found_before x a s q = absurd (cc)

found : (x : ℕ) (a : Formula) (s : Relation) → relation_of x a ≡ Some s → Found x a s
found x a s q = elim (first_some (single_of (point_of false x a)) (first_of (next_of x a) (before_of x a)) s q) [
  | inl p ↦ found_single x a s p
  | inr p ↦ elim (first_some (next_of x a) (before_of x a) s p) [ inl r ↦ found_next x a s r | inr r ↦ found_before x a s r ]
]

-- where set n is the set of the name y
point_only : (v : Sets) (n : ℕ) (e : Env) (y i : ℕ) → ((j : ℕ) → v n j ≡ has (e.groups y) j) → Only v n i ↔ IsPoint e y i
point_only v n e y i s = (λ o. (sym (s i) ∙ o.0, λ j g. o.1 j (s j ∙ g)), λ o. (s i ∙ o.0, λ j g. o.1 j (sym (s j) ∙ g)))

-- the claim of a relation says of the sets that stand for its names what the relation does
relation_says : (a : Relation) (ρ : Numbering) (e : Env) (v : Sets) (l : List Name) → RelationNames a l → Stand v ρ e l → Holds (claim_of ρ a) v ↔ RelationSays a e
relation_says (Within y z) ρ e v l n s =
    let p = s (OfGroup y) n.0 in let q = s (OfGroup z) n.1 in
    let n = within_holds (ρ (OfGroup y)) (ρ (OfGroup z)) v in
    (λ h i g. sym (q i) ∙ n.0 h i (p i ∙ g), λ h. n.1 (λ i g. q i ∙ h i (sym (p i) ∙ g)))
relation_says (Single y) ρ e v l n s =
    let p = s (OfGroup y) n.0 in
    let at : (i : ℕ) → Only v (ρ (OfGroup y)) i ↔ IsPoint e y i = λ i. point_only v (ρ (OfGroup y)) e y i p in
    let n = single_holds (ρ (OfGroup y)) v in
    (λ h. (let (i, o) = n.0 h in (i, (at i).0 o)), λ h. n.1 (h.0, (at h.0).1 h.1))
relation_says (Next y z) ρ e v l n s =
    let first_at : (i : ℕ) → Only v (ρ (OfGroup y)) i ↔ IsPoint e y i = λ i. point_only v (ρ (OfGroup y)) e y i (s (OfGroup y) n.0) in
    let second_at : (i : ℕ) → Only v (ρ (OfGroup z)) i ↔ IsPoint e z i = λ i. point_only v (ρ (OfGroup z)) e z i (s (OfGroup z) n.1) in
    let n = next_holds (ρ (OfGroup y)) (ρ (OfGroup z)) v in
    (λ h. (let (i, p, q) = n.0 h in (i, (first_at i).0 p, (second_at (suc i)).0 q)), λ h. (let (i, p, q) = h in n.1 (i, (first_at i).1 p, (second_at (suc i)).1 q)))
relation_says (Before y z) ρ e v l n s =
    let first_at : (i : ℕ) → Only v (ρ (OfGroup y)) i ↔ IsPoint e y i = λ i. point_only v (ρ (OfGroup y)) e y i (s (OfGroup y) n.0) in
    let second_at : (i : ℕ) → Only v (ρ (OfGroup z)) i ↔ IsPoint e z i = λ i. point_only v (ρ (OfGroup z)) e z i (s (OfGroup z) n.1) in
    let n = before_holds (ρ (OfGroup y)) (ρ (OfGroup z)) v in
    (λ h. (let (i, j, p, q, g) = n.0 h in (i, j, (first_at i).0 p, (second_at j).0 q, g)), λ h. (let (i, j, p, q, g) = h in n.1 (i, j, (first_at i).1 p, (second_at j).1 q, g)))

-- that there is a place of which the formula holds, where it says just what a relation does
pub relation_of_says : (x : ℕ) (a : Formula) (s : Relation) (ρ : Numbering) (e : Env) (v : Sets) → relation_of x a ≡ Some s → Stand v ρ e (without (OfPlace x) (names a)) →
    Holds (claim_of ρ s) v ↔ ((i : ℕ) × Meaning a (with_place e x i))
relation_of_says x a s ρ e v q st =
    let f = found x a s q in
    let h = relation_says s ρ e v (without (OfPlace x) (names a)) f.names st in
    let g = f.says e in
    (λ k. g.1 (h.0 k), λ k. h.1 (g.0 k))
