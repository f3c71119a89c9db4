-- Which place the claims call the one before a place or behind it, in a line and in a ring.
use Rattle.std.proofs.Common.{◌≡◌, ℕ, zero, suc, ◌-◌, ◌<◌, Bool, true, false, eqb, ◌⊎◌, ◌↔◌, List, sym, refl, ap, ◌∙◌, subst, inl, inr, arith}
use native.Mathlib.Decide.{dec_lt, ℕ_discrete}
use Rattle.std.proofs.lemmas.Bool.Decides.{eqb_tells}
use Rattle.words.specs.Words.{Sets}
use Rattle.claims.specs.Claims.{put, C, Holds, within, next, not1, and1, some}
use Rattle.kinds.specs.Relations.{Only}
use Rattle.claims.specs.Places.{one}
use Rattle.claims.proofs.PlacesLaws.{put_other, only_one, only_put}
use Rattle.translation.proofs.Opened.{within_holds, single_holds, next_holds}
use Rattle.rows.specs.declared.rule.Layout.{Layout}
use Rattle.rows.specs.declared.rule.Layout.TheVariants as layout
use Rattle.rows.specs.Local.{sees, both, behind_place, fresh, round, follows}
use Rattle.rows.proofs.Bools.{bool_apart, or_left, or_right}
use Rattle.rows.proofs.FreeLaws.{eqb_same, fresh_other, fresh_unnamed}
use Rattle.rows.proofs.SaysLaws.{Says}

-- set r has the first n places
abbrev pub IsRow : ℕ → ℕ → Sets → Type 0
IsRow r n v = (i : ℕ) → (v r i ≡ true) ↔ (i < n)

pub row_put : (v : Sets) (x : ℕ) (u : List Bool) (r n : ℕ) → (r ≡ x → ⊥) → IsRow r n v → IsRow r n (put v x u)
row_put v x u r n h is i = (λ e. (is i).0 (sym (put_other v x u r i h) ∙ e), λ e. put_other v x u r i h ∙ (is i).1 e)

-- of n places, j is the one behind i
abbrev pub Follows : Layout → ℕ → ℕ → ℕ → Type 0
Follows layout.Line n i j = suc i ≡ j
Follows layout.Ring n i j = (suc i ≡ j) ⊎ ((suc i ≡ n) × (j ≡ 0))

-- two places of the row r, at i and j
module _ (v : Sets) (n r z x y i j : ℕ) (is : IsRow r n v) (ox : Only v x i) (oy : Only v y j) (in_x : i < n) (in_y : j < n) (zr : r ≡ z → ⊥) (zx : x ≡ z → ⊥) (zy : y ≡ z → ⊥) where
  next_at : Holds (next x y) v ↔ (suc i ≡ j)
  next_at = (
    λ h. (let (k, a, d) = (next_holds x y v).0 h in let p = ox.1 k a.0 in let q = oy.1 (suc k) d.0 in omega arith),
    λ e. (next_holds x y v).1 (i, ox, subst (λ q. Only v y q) (sym e) oy),
  )

  first_at : Holds (not1 (some z (next z y))) v ↔ (j ≡ 0)
  first_at = (at j oy, from)
    where
      at : (j : ℕ) → Only v y j → (Holds (some z (next z y)) v → ⊥) → j ≡ 0
      at zero o h = refl
      at (suc k) o h = absurd (h (one k, (next_holds z y (put v z (one k))).1 (k, only_one v z k, (only_put v z (one k) y (suc k) zy).0 o)))

      from : j ≡ 0 → Holds (some z (next z y)) v → ⊥
      from e h =
          let (u, g) = h in
          let (k, a, d) = (next_holds z y (put v z u)).0 g in
          let q = oy.1 (suc k) ((only_put v z u y (suc k) zy).1 d).0 in
          omega arith

  last_at : Holds (some z (and1 (next x z) (not1 (within z r)))) v ↔ (suc i ≡ n)
  last_at = (to, from)
    where
      row : (u : List Bool) → (k : ℕ) → (put v z u r k ≡ true) ↔ (k < n)
      row u k = row_put v z u r n zr is k

      to : Holds (some z (and1 (next x z) (not1 (within z r)))) v → suc i ≡ n
      to h =
          let (u, g) = h in
          let (k, a, d) = (next_holds x z (put v z u)).0 g.0 in
          let q = ox.1 k ((only_put v z u x k zx).1 a).0 in
          elim (dec_lt (suc k) n) [
            | yes l ↦ absurd (g.1 ((within_holds z r (put v z u)).1 (λ m e. subst (λ p. put v z u r p ≡ true) (sym (d.1 m e)) ((row u (suc k)).1 l))))
            | no l ↦ omega arith
          ]

      from : suc i ≡ n → Holds (some z (and1 (next x z) (not1 (within z r)))) v
      from e =
          let u = one (suc i) in
          let o = only_one v z (suc i) in
          (u, ((next_holds x z (put v z u)).1 (i, (only_put v z u x i zx).0 ox, o), λ h. (let m = (row u (suc i)).0 ((within_holds z r (put v z u)).0 h (suc i) o.0) in omega arith)))

  round_says : Holds (round r z x y) v ↔ Follows layout.Ring n i j
  round_says = (to, from)
    where
      to : Holds (round r z x y) v → Follows layout.Ring n i j
      to h = elim (ℕ_discrete (suc i) j) [
        | yes e ↦ inl e
        | no a ↦ elim (ℕ_discrete (suc i) n) [
          | no d ↦ absurd (h (λ t. a (next_at.0 t), λ t. d (last_at.0 t.1)))
          | yes d ↦ elim (ℕ_discrete j 0) [
            | yes e ↦ inr (d, e)
            | no c ↦ absurd (h (λ t. a (next_at.0 t), λ t. c (first_at.0 t.0)))
          ]
        ]
      ]

      from : Follows layout.Ring n i j → Holds (round r z x y) v
      from (inl e) h = h.0 (next_at.1 e)
      from (inr e) h = h.1 (first_at.1 e.1, last_at.1 e.0)

-- the row, where the claim asks for it: in a ring its n places are set r, p is another set, and its place i is of the row
abbrev pub Ground : Layout → ℕ → ℕ → ℕ → ℕ → Sets → Type 0
Ground layout.Line r n p i v = Unit {0}
Ground layout.Ring r n p i v = IsRow r n v × (r ≡ p → ⊥) × (i < n)

-- in a ring place k is one of the n
abbrev pub In : Layout → ℕ → ℕ → Type 0
In layout.Line n k = Unit {0}
In layout.Ring n k = k < n

-- what says that l is the place before that of p, or the one behind it
module _ (w : Sets) (s : Layout) (n r p l i : ℕ) (pl : p ≡ l → ⊥) (o : Only w p i) (u : List Bool) where
  here : Only (put w l u) p i
  here = (only_put w l u p i pl).0 o

  pub before_link : (s ≡ layout.Ring → r ≡ l → ⊥) → Ground s r n p i w → Holds (follows s r l l p) (put w l u) ↔ ((k : ℕ) × Only (put w l u) l k × (In s n k × Follows s n k i))
  before_link = at s
    where
      at : (s : Layout) → (s ≡ layout.Ring → r ≡ l → ⊥) → Ground s r n p i w → Holds (follows s r l l p) (put w l u) ↔ ((k : ℕ) × Only (put w l u) l k × (In s n k × Follows s n k i))
      at layout.Line rl g = (
        λ h. (let (k, a, d) = (next_holds l p (put w l u)).0 h in (k, a, (tt, here.1 (suc k) d.0))),
        λ h. (let (k, a, (t, e)) = h in (next_holds l p (put w l u)).1 (k, a, subst (λ q. Only (put w l u) p q) (sym e) here)),
      )
      at layout.Ring rl g =
          let z = fresh l (both (sees r) (sees p)) in
          let is = row_put w l u r n (rl refl) g.0 in
          let says = λ (k : ℕ). λ (a : Only (put w l u) l k). λ (m : k < n). round_says (put w l u) n r z l p k i is a here m g.2 (fresh_unnamed l (both (sees r) (sees p)) r (or_left (eqb r r) (eqb r p) (eqb_same r))) (fresh_other l (both (sees r) (sees p))) (fresh_unnamed l (both (sees r) (sees p)) p (or_right (eqb p r) (eqb p p) (eqb_same p))) in (
            λ h. (let (k, a) = (single_holds l (put w l u)).0 h.0.0 in let m = (is k).0 ((within_holds l r (put w l u)).0 h.0.1 k a.0) in (k, a, (m, (says k a m).0 h.1))),
            λ h. (let (k, a, (m, e)) = h in (((single_holds l (put w l u)).1 (k, a), (within_holds l r (put w l u)).1 (λ j t. subst (λ q. put w l u r q ≡ true) (sym (a.1 j t)) ((is k).1 m))), (says k a m).1 e)),
          )

  pub behind_link : (s ≡ layout.Ring → r ≡ l → ⊥) → Ground s r n p i w → Holds (follows s r l p l) (put w l u) ↔ ((k : ℕ) × Only (put w l u) l k × (In s n k × Follows s n i k))
  behind_link = at s
    where
      at : (s : Layout) → (s ≡ layout.Ring → r ≡ l → ⊥) → Ground s r n p i w → Holds (follows s r l p l) (put w l u) ↔ ((k : ℕ) × Only (put w l u) l k × (In s n k × Follows s n i k))
      at layout.Line rl g = (
        λ h. (let (k, a, d) = (next_holds p l (put w l u)).0 h in let e = here.1 k a.0 in (suc k, d, (tt, ap suc (sym e)))),
        λ h. (let (k, a, (t, e)) = h in (next_holds p l (put w l u)).1 (i, here, subst (λ q. Only (put w l u) l q) (sym e) a)),
      )
      at layout.Ring rl g =
          let z = fresh p (both (sees r) (sees l)) in
          let is = row_put w l u r n (rl refl) g.0 in
          let says = λ (k : ℕ). λ (a : Only (put w l u) l k). λ (m : k < n). round_says (put w l u) n r z p l i k is here a g.2 m (fresh_unnamed p (both (sees r) (sees l)) r (or_left (eqb r r) (eqb r l) (eqb_same r))) (fresh_other p (both (sees r) (sees l))) (fresh_unnamed p (both (sees r) (sees l)) l (or_right (eqb l r) (eqb l l) (eqb_same l))) in (
            λ h. (let (k, a) = (single_holds l (put w l u)).0 h.0.0 in let m = (is k).0 ((within_holds l r (put w l u)).0 h.0.1 k a.0) in (k, a, (m, (says k a m).0 h.1))),
            λ h. (let (k, a, (m, e)) = h in (((single_holds l (put w l u)).1 (k, a), (within_holds l r (put w l u)).1 (λ j t. subst (λ q. put w l u r q ≡ true) (sym (a.1 j t)) ((is k).1 m))), (says k a m).1 e)),
          )

-- some place l, of which d says which it may be, and a claim about it
module _ (w : Sets) (l : ℕ) (d : C) (R : ℕ → Type 0) (link : (u : List Bool) → Holds d (put w l u) ↔ ((k : ℕ) × Only (put w l u) l k × R k)) where
  pub there_says : (c : C) (b : Bool) (k : ℕ) → R k → ((m : ℕ) → R m → m ≡ k) → ((u : List Bool) → Only (put w l u) l k → Says c (put w l u) b) → Says (some l (and1 d c)) w b
  there_says c b k r sole s = (
    λ h. (let (u, g) = h in let (m, a, t) = (link u).0 g.0 in (s u (subst (λ q. Only (put w l u) l q) (sole m t) a)).0 g.1),
    λ e. (one k, ((link (one k)).1 (k, only_one w l k, r), (s (one k) (only_one w l k)).1 e)),
  )

  pub none_says : (c : C) → ((m : ℕ) → R m → ⊥) → Says (some l (and1 d c)) w false
  none_says c n = (λ h. (let (u, g) = h in let (m, a, t) = (link u).0 g.0 in absurd (n m t)), λ e. bool_apart e refl)

-- the place before place i, and the one behind it, are those of which the claims speak
pub sole_behind : (n i : ℕ) → i < n → (k : ℕ) × ((f : ℕ → Bool) → f k ≡ f (behind_place layout.Ring n i)) × (k < n) × Follows layout.Ring n i k × ((m : ℕ) → (m < n) × Follows layout.Ring n i m → m ≡ k)
sole_behind n i h = elim (eqb_tells (suc i) n) [
  | inl p ↦ (0, (λ f. (let e = p.0 in rw e refl)), omega arith, inr (p.1, refl), λ m t. only_first m t.0 p.1 t.1)
  | inr p ↦ (suc i, (λ f. (let e = p.0 in rw e refl)), (let q = p.1 in less q), inl refl, λ m t. only_next m p.1 t.1)
]
  where
    less : (suc i ≡ n → ⊥) → suc i < n
    less q = elim (dec_lt (suc i) n) [ yes l ↦ l | no l ↦ absurd (q (omega arith)) ]

    only_first : (m : ℕ) → m < n → suc i ≡ n → Follows layout.Ring n i m → m ≡ 0
    only_first m l e (inl d) = omega arith
    only_first m l e (inr d) = d.1

    only_next : (m : ℕ) → (suc i ≡ n → ⊥) → Follows layout.Ring n i m → m ≡ suc i
    only_next m e (inl d) = sym d
    only_next m e (inr d) = absurd (e d.0)

pub sole_before : (n i m : ℕ) → Follows layout.Ring n m (suc i) → m ≡ i
sole_before n i m (inl e) = omega arith
sole_before n i m (inr e) = let q = e.1 in omega arith

pub sole_last : (n m : ℕ) → Follows layout.Ring n m 0 → m ≡ n - 1
sole_last n m (inl e) = omega arith
sole_last n m (inr e) = let q = e.0 in omega arith
