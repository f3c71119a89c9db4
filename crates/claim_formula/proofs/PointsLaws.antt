-- Claims without parts.
use Rattle.std.proofs.Common.{◌≡◌, ℕ, suc, ◌<◌, Bool, true, false, cond, ◌==◌, ◌↔◌, sym, refl, ap, ◌∙◌, subst, inl, inr}
use mathlib.Core.Bool.{true≢false}
use Rattle.std.proofs.lemmas.Bool.Decides.{eqb_tells}
use Rattle.words.specs.Words.{Sets, sets}
use Rattle.claims.specs.Claims.{within, single, next, before, Holds, has}
use Rattle.kinds.specs.Relations.{Only}
use Rattle.claims.specs.Places.{one}
use Rattle.claims.proofs.PlacesLaws.{has_one, one_has}
use Rattle.formulas.specs.declared.formula.Formula.{Formula}
use Rattle.formulas.specs.Meaning.{Env, Meaning, with_place}
use Rattle.translation.proofs.Opened.{within_holds, single_holds, next_holds, before_holds, within_itself}
use Rattle.claim_formula.specs.Saying.{Stand, Means, Tells, Point}
use Rattle.claim_formula.proofs.StandingLaws.{eq_is, is_eq, at_place, at_group, place_only}

-- where a point is named
abbrev spot : Bool → Env → ℕ → ℕ → Env
spot true e x i = e
spot false e x i = with_place e x i

point_says : (σ : ℕ → Bool) (e : Env) (v : Sets) (x : ℕ) (P : Env → Type 0) → Stand σ e v → Point (σ x) x P e ↔ ((i : ℕ) × Only v x i × P (spot (σ x) e x i))
point_says σ e v x P s = by (σ x) refl
  where
    by : (b : Bool) → σ x ≡ b → Point b x P e ↔ ((i : ℕ) × Only v x i × P (spot b e x i))
    by true q = (λ p. (e.places x, place_only σ e v x q s, p), λ h. h.2)
    by false q = (
      λ p. (p.0, (at_group σ e v x q s p.0 ∙ p.1.0, λ j h. p.1.1 j (sym (at_group σ e v x q s j) ∙ h)), p.2),
      λ h. (h.0, (sym (at_group σ e v x q s h.0) ∙ h.1.0, λ j g. h.1.1 j (at_group σ e v x q s j ∙ g)), h.2),
    )

stand_spot : (σ : ℕ → Bool) (e : Env) (v : Sets) (x i : ℕ) → Stand σ e v → Stand σ (spot (σ x) e x i) v
stand_spot σ e v x i s = by (σ x) refl
  where
    by : (b : Bool) → σ x ≡ b → Stand σ (spot b e x i) v
    by true q = s
    by false q = λ y j. elim (eqb_tells y x) [
      | inl p ↦ let r : σ y ≡ false = ap σ p.1 ∙ q in at_group σ e v y r s j ∙ sym (ap (λ b. cond b (j == cond (y == x) i (e.places y)) (has (e.groups y) j)) r)
      | inr p ↦ rw p.0 (s y j)
    ]

spot_here : (σ : ℕ → Bool) (e : Env) (v : Sets) (x i : ℕ) → Stand σ e v → Only v x i → (spot (σ x) e x i).places x ≡ i
spot_here σ e v x i s o = by (σ x) refl
  where
    by : (b : Bool) → σ x ≡ b → (spot b e x i).places x ≡ i
    by true q = o.1 (e.places x) (place_only σ e v x q s).0
    by false q = elim (eqb_tells x x) [ inl p ↦ rw p.0 refl | inr p ↦ absurd (p.1 refl) ]

spot_other : (b : Bool) (e : Env) (v : Sets) (x y i j : ℕ) → Only v x i → Only v y j → e.places x ≡ i → (spot b e y j).places x ≡ i
spot_other true e v x y i j o p q = q
spot_other false e v x y i j o p q = elim (eqb_tells x y) [ inl r ↦ rw r.0 (o.1 j (subst (λ z. v z j ≡ true) (sym r.1) p.0)) | inr r ↦ rw r.0 q ]

-- two points
pair_says : (σ : ℕ → Bool) (e : Env) (v : Sets) (x y : ℕ) (R : ℕ → ℕ → Type 0) → Stand σ e v →
    Point (σ x) x (Point (σ y) y (λ g. R (g.places x) (g.places y))) e ↔ ((i : ℕ) × (j : ℕ) × Only v x i × Only v y j × R i j)
pair_says σ e v x y R s = (
  λ p. (let (i, o, q) = (point_says σ e v x (Point (σ y) y (λ g. R (g.places x) (g.places y))) s).0 p in
      let (j, k, r) = (point_says σ (spot (σ x) e x i) v y (λ g. R (g.places x) (g.places y)) (stand_spot σ e v x i s)).0 q in
      (i, j, o, k, subst (λ z. R z j) (first i j o k) (subst (R ((spot (σ y) (spot (σ x) e x i) y j).places x)) (second i j k) r))),
  λ h. (let (i, j, o, k, r) = h in
      (point_says σ e v x (Point (σ y) y (λ g. R (g.places x) (g.places y))) s).1 (
        i,
        o,
        (point_says σ (spot (σ x) e x i) v y (λ g. R (g.places x) (g.places y)) (stand_spot σ e v x i s)).1 (
          j,
          k,
          subst (λ z. R z ((spot (σ y) (spot (σ x) e x i) y j).places y)) (sym (first i j o k)) (subst (R i) (sym (second i j k)) r),
        ),
      )),
)
  where
    first : (i j : ℕ) → Only v x i → Only v y j → (spot (σ y) (spot (σ x) e x i) y j).places x ≡ i
    first i j o k = spot_other (σ y) (spot (σ x) e x i) v x y i j o k (spot_here σ e v x i s o)

    second : (i j : ℕ) → Only v y j → (spot (σ y) (spot (σ x) e x i) y j).places y ≡ j
    second i j k = spot_here σ (spot (σ x) e x i) v y j (stand_spot σ e v x i s) k

pub single_tells : (σ : ℕ → Bool) (x : ℕ) → Tells σ (Point (σ x) x (λ e. Unit {0})) (single x)
single_tells σ x w e s =
    let p = point_says σ e (sets w) x (λ g. Unit {0}) s in
    let q = single_holds x (sets w) in
    (λ m. (let (i, o, t) = p.0 m in q.1 (i, o)), λ h. (let (i, o) = q.0 h in p.1 (i, o, tt)))

pub next_tells : (σ : ℕ → Bool) (x y : ℕ) → Tells σ (Point (σ x) x (Point (σ y) y (λ g. g.places y ≡ suc (g.places x)))) (next x y)
next_tells σ x y w e s =
    let p = pair_says σ e (sets w) x y (λ i j. j ≡ suc i) s in
    let q = next_holds x y (sets w) in
    (λ m. (let (i, j, o, k, r) = p.0 m in q.1 (i, o, subst (Only (sets w) y) r k)), λ h. (let (i, o, k) = q.0 h in p.1 (i, suc i, o, k, refl)))

pub before_tells : (σ : ℕ → Bool) (x y : ℕ) → Tells σ (Point (σ x) x (Point (σ y) y (λ g. g.places x < g.places y))) (before x y)
before_tells σ x y w e s =
    let p = pair_says σ e (sets w) x y (λ i j. i < j) s in
    let q = before_holds x y (sets w) in
    (λ m. q.1 (p.0 m), λ h. p.1 (q.0 h))

pub itself_tells : (σ : ℕ → Bool) (x y : ℕ) → x ≡ y → Tells σ (λ e. Unit {0}) (within x y)
itself_tells σ x y q w e s = (λ t. subst (λ z. Holds (within x z) (sets w)) q (within_itself x (sets w)), λ h. tt)

pub same_tells : (σ : ℕ → Bool) (x y : ℕ) → σ x ≡ true → σ y ≡ true → Tells σ (λ e. e.places x ≡ e.places y) (within x y)
same_tells σ x y p q w e s = (
  λ m. (within_holds x y (sets w)).1 (λ i h. at_place σ e (sets w) y q s i ∙ eq_is i (e.places y) ((place_only σ e (sets w) x p s).1 i h ∙ m)),
  λ h. (place_only σ e (sets w) y q s).1 (e.places x) ((within_holds x y (sets w)).0 h (e.places x) (place_only σ e (sets w) x p s).0),
)

pub in_tells : (σ : ℕ → Bool) (x y : ℕ) → σ x ≡ true → σ y ≡ false → Tells σ (λ e. has (e.groups y) (e.places x) ≡ true) (within x y)
in_tells σ x y p q w e s = (
  λ m. (within_holds x y (sets w)).1 (λ i h. subst (λ z. sets w y z ≡ true) (sym ((place_only σ e (sets w) x p s).1 i h)) (at_group σ e (sets w) y q s (e.places x) ∙ m)),
  λ h. sym (at_group σ e (sets w) y q s (e.places x)) ∙ (within_holds x y (sets w)).0 h (e.places x) (place_only σ e (sets w) x p s).0,
)

pub only_tells : (σ : ℕ → Bool) (x y : ℕ) → σ x ≡ false → σ y ≡ true → Tells σ (λ e. (i : ℕ) → has (e.groups x) i ≡ true → has (one (e.places y)) i ≡ true) (within x y)
only_tells σ x y p q w e s = (
  λ m. (within_holds x y (sets w)).1 (λ i h. at_place σ e (sets w) y q s i ∙ eq_is i (e.places y) (one_has (e.places y) i (m i (sym (at_group σ e (sets w) x p s i) ∙ h)))),
  λ h i m. (let g = (within_holds x y (sets w)).0 h i (at_group σ e (sets w) x p s i ∙ m) in
      subst (λ z. has (one (e.places y)) z ≡ true) (sym (is_eq i (e.places y) (sym (at_place σ e (sets w) y q s i) ∙ g))) (has_one (e.places y))),
)

pub sub_tells : (σ : ℕ → Bool) (x y : ℕ) → σ x ≡ false → σ y ≡ false → Tells σ (λ e. (i : ℕ) → has (e.groups x) i ≡ true → has (e.groups y) i ≡ true) (within x y)
sub_tells σ x y p q w e s = (
  λ m. (within_holds x y (sets w)).1 (λ i h. at_group σ e (sets w) y q s i ∙ m i (sym (at_group σ e (sets w) x p s i) ∙ h)),
  λ h i m. sym (at_group σ e (sets w) y q s i) ∙ (within_holds x y (sets w)).0 h i (at_group σ e (sets w) x p s i ∙ m),
)

-- of a point, what is the same of every place
pub point_means : (b : Bool) (x : ℕ) (r : Formula) (P Q : Env → Type 0) → Means r (Point b x P) → ((e : Env) → P e ↔ Q e) → Means r (Point b x Q)
point_means true x r P Q m f e = (λ h. (f e).0 ((m e).0 h), λ h. (m e).1 ((f e).1 h))
point_means false x r P Q m f e = (
  λ h. (let (i, o, p) = (m e).0 h in (i, o, (f (with_place e x i)).0 p)),
  λ h. (m e).1 (h.0, h.1, (f (with_place e x h.0)).1 h.2),
)

-- that place x is the one place of set x, and more
pub point_some : (x : ℕ) (p a r : Formula) (b : Bool) → b ≡ false →
    Means p (λ e. (has (e.groups x) (e.places x) ≡ true) × ((j : ℕ) → has (e.groups x) j ≡ true → has (one (e.places x)) j ≡ true)) →
    Means r (λ e. Meaning p e × Meaning a e) → (e : Env) → ((i : ℕ) × Meaning r (with_place e x i)) ↔ Point b x (Meaning a) e
point_some x p a r true q m n e = absurd (true≢false q)
point_some x p a r false q m n e = (
  λ h. (let (s, t) = (n (with_place e x h.0)).0 h.1 in
      let (u, k) = (m (with_place e x h.0)).0 s in (
        h.0,
        (subst (λ z. has (e.groups x) z ≡ true) (here h.0) u, λ j g. one_has h.0 j (subst (λ z. has (one z) j ≡ true) (here h.0) (k j g))),
        t,
      )),
  λ h. (
    h.0,
    (n (with_place e x h.0)).1 (
      (m (with_place e x h.0)).1 (
        subst (λ z. has (e.groups x) z ≡ true) (sym (here h.0)) h.1.0,
        λ j g. subst (λ z. has (one z) j ≡ true) (sym (here h.0)) (subst (λ z. has (one h.0) z ≡ true) (sym (h.1.1 j g)) (has_one h.0)),
      ),
      h.2,
    ),
  ),
)
  where
    here : (i : ℕ) → (with_place e x i).places x ≡ i
    here i = elim (eqb_tells x x) [ inl z ↦ rw z.0 refl | inr z ↦ absurd (z.1 refl) ]
