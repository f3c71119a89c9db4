-- Ring claims as row claims.
use Rattle.std.proofs.Common.{◌≡◌, ℕ, zero, suc, ◌<◌, max, Bool, true, false, cond, T, eqb, ltb, leb, ◌↔◌, List, length, sym, refl, ◌∙◌, subst, inl, inr, arith, ltb→lt, lt→ltb, le→leb, leb→le}
use native.Mathlib.Decide.{ℕ_discrete}
use Rattle.std.proofs.lemmas.Bool.Decides.{eqb_tells}
use Rattle.words.specs.Words.{Sets, Word, sets}
use Rattle.kinds.specs.Relations.{Only}
use Rattle.claims.specs.Claims.{has, put, Holds}
use Rattle.claims.specs.Claims as claims
use Rattle.claims.specs.Places.{one}
use Rattle.claims.proofs.FrontLaws.{both_passed, pass_both}
use Rattle.claims.proofs.PlacesLaws.{one_has, only_one, only_put, put_same}
use Rattle.translation.proofs.Opened.{single_holds, next_holds}
use Rattle.rows.proofs.StepLaws.{sets_below}
use Rattle.rows.proofs.Telling.{tells}
use Rattle.row_claims.specs.Meaning.{RowClaim, Inside, HoldsRow, OfRow}
use Rattle.row_claims.specs.Meaning as rows
use Rattle.row_claims.specs.Reading.{row_ok, further}
use Rattle.row_claims.proofs.FurtherLaws.{further_says}
use Rattle.row_claims.proofs.Told.{row_decided}
use Rattle.ring_claims.specs.Meaning.{RingClaim, atom, not1, and1, some, NextOf, MeansRing, HoldsRing, OfRing}
use Rattle.ring_claims.specs.Reading.{ring_ok, row_single, row_next, alone, at_seam, around, ring_next, atom_in, in_ring}
use Rattle.ring_claims.specs.declared.atom.RingAtom.{RingAtom}
use Rattle.ring_claims.specs.declared.atom.RingAtom.TheVariants.{Within, Single, Next, Multiple}
use Rattle.ring_claims.specs.Laws.{RingSays, RingSets, RingTells, RingDecided, NextToItself}

-- all sets end with the ring
abbrev pub Ending : ℕ → Sets → Type 0
Ending n v = (y i : ℕ) → v y i ≡ true → i < n

pub put_ending : (n : ℕ) (v : Sets) (x : ℕ) (u : List Bool) → Ending n v → Inside n u → Ending n (put v x u)
put_ending n v x u b l y i = at (eqb y x)
  where
    at : (t : Bool) → cond t (has u i) (v y i) ≡ true → i < n
    at true e = l i e
    at false e = b y i e

pub word_ending : (w : Word) → Ending (length w) (sets w)
word_ending w y i e = sets_below w y i e

-- a set of one place of the ring
one_inside : (n i : ℕ) → i < n → Inside n (one i)
one_inside n i h j e = let q = one_has i j e in omega arith

module _ (n : ℕ) (v : Sets) (ending : Ending n v) where
  -- a set next to itself has the one place of a ring of one
  next_alone : (x : ℕ) → MeansRing (Next x x) n v ↔ ((n ≡ 1) × Only v x 0)
  next_alone x = (λ h. (let (i, j, o, p, b) = h in of_one i j o (o.1 j p.0) b), λ h. (0, 0, h.1, h.1, inr (sym h.0, refl)))
    where
      of_one : (i j : ℕ) → Only v x i → j ≡ i → NextOf n i j → (n ≡ 1) × Only v x 0
      of_one i j o e (inl b) = let z : ⊥ = omega arith in absurd z
      of_one i j o e (inr b) = let (l, f) = b in (omega arith, subst (λ q. Only v x q) (let z : i ≡ 0 = omega arith in z) o)

  alone_to : (x : ℕ) → (n ≡ 1) × Only v x 0 → HoldsRow (alone x) n v
  alone_to x h = ((single_holds x v).1 (0, h.1), λ s. (let (u, l, g) = s in g.1 (last_one u l ((single_holds x (put v x u)).0 g.0))))
    where
      last_one : (u : List Bool) → Inside n u → (k : ℕ) × Only (put v x u) x k → HoldsRow (rows.last x) n (put v x u)
      last_one u l p =
          let (k, o) = p in
          let f = l k (sym (put_same v x u k) ∙ o.0) in
          let e = h.0 in
          λ i. (λ t. (let q = o.1 i t in omega arith), λ t. subst (λ q. put v x u x q ≡ true) (let z : k ≡ i = omega arith in z) o.0)

  alone_from : (x : ℕ) → HoldsRow (alone x) n v → (n ≡ 1) × Only v x 0
  alone_from x h = let (i, o) = (single_holds x v).0 h.0 in of_place i o (ending x i o.0)
    where
      of_place : (i : ℕ) → Only v x i → i < n → (n ≡ 1) × Only v x 0
      of_place i o l = elim (ℕ_discrete 1 n) [
        | yes e ↦ (sym e, subst (λ q. Only v x q) (let z : i ≡ 0 = omega arith in z) o)
        | no d ↦ absurd (h.1 (one 0, one_inside n 0 (omega arith), ((single_holds x (put v x (one 0))).1 (0, only_one v x 0), λ t. d ((t 0).0 (only_one v x 0).0))))
      ]

  module _ (x y : ℕ) (apart : x ≡ y → ⊥) where
    flipped : y ≡ x → ⊥
    flipped e = apart (sym e)

    -- a place behind that of x, as y
    behind_holds : (i : ℕ) → Only v x i → suc i < n → HoldsRow (rows.some y (row_next x y)) n v
    behind_holds i o l = (one (suc i), one_inside n (suc i) l, (next_holds x y (put v y (one (suc i)))).1 (i, (only_put v y (one (suc i)) x i apart).0 o, only_one v y (suc i)))

    none_behind : (i : ℕ) → Only v x i → suc i ≡ n → HoldsRow (rows.some y (row_next x y)) n v → ⊥
    none_behind i o e h =
        let (u, l, g) = h in
        let (k, p, q) = (next_holds x y (put v y u)).0 g in
        let s = o.1 k ((only_put v y u x k apart).1 p).0 in
        let t = l (suc k) (sym (put_same v y u (suc k)) ∙ q.0) in
        omega arith

    -- one before that of y, as x
    before_holds : (j : ℕ) → Only v y (suc j) → HoldsRow (rows.some x (row_next x y)) n v
    before_holds j o =
        let l = ending y (suc j) o.0 in
        (one j, one_inside n j (omega arith), (next_holds x y (put v x (one j))).1 (j, only_one v x j, (only_put v x (one j) y (suc j) flipped).0 o))

    none_before : Only v y 0 → HoldsRow (rows.some x (row_next x y)) n v → ⊥
    none_before o h =
        let (u, l, g) = h in
        let (k, p, q) = (next_holds x y (put v x u)).0 g in
        let s = o.1 (suc k) ((only_put v x u y (suc k) flipped).1 q).0 in
        omega arith

    around_to : MeansRing (Next x y) n v → HoldsRow (around x y) n v
    around_to h = let (i, j, o, p, b) = h in ((single_holds x v).1 (i, o), ((single_holds y v).1 (j, p), λ g. go i j o p b g.0 g.1))
      where
        go : (i j : ℕ) → Only v x i → Only v y j → NextOf n i j → (HoldsRow (row_next x y) n v → ⊥) → (HoldsRow (at_seam x y) n v → ⊥) → ⊥
        go i j o p (inl e) f g = f ((next_holds x y v).1 (i, o, subst (λ q. Only v y q) (sym e) p))
        go i j o p (inr e) f g = g (none_behind i o e.0, none_before (subst (λ q. Only v y q) e.1 p))

    around_from : HoldsRow (around x y) n v → MeansRing (Next x y) n v
    around_from h =
        let (i, o) = (single_holds x v).0 h.0 in
        let (j, p) = (single_holds y v).0 h.1.0 in
        (i, j, o, p, at i j o p)
      where
        not_behind : (i j : ℕ) → Only v x i → Only v y j → (suc i ≡ j → ⊥) → HoldsRow (row_next x y) n v → ⊥
        not_behind i j o p d t =
            let (k, a, b) = (next_holds x y v).0 t in
            let e = o.1 k a.0 in
            let f = p.1 (suc k) b.0 in
            d (omega arith)

        begins : (i j : ℕ) → Only v x i → Only v y j → (suc i ≡ j → ⊥) → j ≡ 0
        begins i zero o p d = refl
        begins i (suc j) o p d = absurd (h.1.1 (not_behind i (suc j) o p d, λ t. t.1 (before_holds j p)))

        at : (i j : ℕ) → Only v x i → Only v y j → NextOf n i j
        at i j o p = elim (ℕ_discrete (suc i) j) [
          | yes e ↦ inl e
          | no d ↦ elim (ℕ_discrete (suc i) n) [
            | yes e ↦ inr (e, begins i j o p d)
            | no f ↦ (let l = ending x i o.0 in absurd (h.1.1 (not_behind i j o p d, λ t. t.0 (behind_holds i o (omega arith)))))
          ]
        ]

  next_says : (x y : ℕ) → MeansRing (Next x y) n v ↔ HoldsRow (ring_next x y) n v
  next_says x y = elim (eqb_tells x y) [
    | inl p ↦ subst (λ b. MeansRing (Next x y) n v ↔ HoldsRow (cond b (alone x) (around x y)) n v) (sym p.0) (subst (λ y. MeansRing (Next x y) n v ↔ HoldsRow (alone x) n v) p.1 itself)
    | inr p ↦ subst (λ b. MeansRing (Next x y) n v ↔ HoldsRow (cond b (alone x) (around x y)) n v) (sym p.0) (around_to x y p.1, around_from x y p.1)
  ]
    where
      itself : MeansRing (Next x x) n v ↔ HoldsRow (alone x) n v
      itself = (λ h. alone_to x ((next_alone x).0 h), λ h. (next_alone x).1 (alone_from x h))

atom_says : (a : RingAtom) (n : ℕ) (v : Sets) → Ending n v → MeansRing a n v ↔ HoldsRow (atom_in a) n v
atom_says (Within x y) n v b = (λ h. h, λ h. h)
atom_says (Single x) n v b = (λ h. h, λ h. h)
atom_says (Next x y) n v b = next_says n v b x y
atom_says (Multiple m) n v b = (λ h. h, λ h. h)

says : (c : RingClaim) (n : ℕ) (v : Sets) → Ending n v → HoldsRing c n v ↔ HoldsRow (in_ring c) n v
says (atom a) n v b = atom_says a n v b
says (not1 c) n v b = let e = says c n v b in (λ h g. h (e.1 g), λ h g. h (e.0 g))
says (and1 c d) n v b = let e = says c n v b in let f = says d n v b in (λ h. (e.0 h.0, f.0 h.1), λ h. (e.1 h.0, f.1 h.1))
says (some x c) n v b = (
  λ h. (h.0, h.1, (says c n (put v x h.0) (put_ending n v x h.0 b h.1)).0 h.2),
  λ h. (h.0, h.1, (says c n (put v x h.0) (put_ending n v x h.0 b h.1)).1 h.2),
)

pub ring_says : RingSays
ring_says c w = says c (length w) (sets w) (word_ending w)

pub next_to_itself : NextToItself
next_to_itself x w = next_alone (length w) (sets w) (word_ending w) x

-- The numbers in the row claim.
module _ (k : ℕ) where
  pair_ok : (x y : ℕ) → T (ltb x k) → T (ltb y k) → T (leb (max (suc x) (suc y)) k)
  pair_ok x y a b = le→leb (max (suc x) (suc y)) k (let l = ltb→lt x k a in let m = ltb→lt y k b in omega arith)

  and_ok : (c d : RowClaim) → T (row_ok k c) → T (row_ok k d) → T (row_ok k (rows.and1 c d))
  and_ok c d s t = pass_both (row_ok k c) (row_ok k d) s t

  some_ok : (x : ℕ) (c : RowClaim) → T (ltb x k) → T (row_ok k c) → T (row_ok k (rows.some x c))
  some_ok x c h t = pass_both (ltb x k) (row_ok k c) h t

  next_ok : (x y : ℕ) → T (ltb x k) → T (ltb y k) → T (row_ok k (ring_next x y))
  next_ok x y a b = at (eqb x y)
    where
      one_x : T (row_ok k (row_single x))
      one_x = pair_ok x x a a

      near : T (row_ok k (row_next x y))
      near = pair_ok x y a b

      at : (t : Bool) → T (row_ok k (cond t (alone x) (around x y)))
      at true = and_ok (row_single x) (rows.not1 (rows.some x (rows.and1 (row_single x) (rows.not1 (rows.last x))))) one_x (some_ok x (rows.and1 (row_single x) (rows.not1 (rows.last x))) a (and_ok (row_single x) (rows.not1 (rows.last x)) one_x a))
      at false =
          let seam = and_ok (rows.not1 (rows.some y (row_next x y))) (rows.not1 (rows.some x (row_next x y))) (some_ok y (row_next x y) b near) (some_ok x (row_next x y) a near) in
          let inner = and_ok (rows.not1 (row_next x y)) (rows.not1 (at_seam x y)) near seam in
          let rest = rows.not1 (rows.and1 (rows.not1 (row_next x y)) (rows.not1 (at_seam x y))) in
          and_ok (row_single x) (rows.and1 (row_single y) rest) one_x (and_ok (row_single y) rest (pair_ok y y b b) inner)

  in_ok : (c : RingClaim) → T (ring_ok k c) → T (row_ok k (in_ring c))
  in_ok (atom (Within x y)) t = t
  in_ok (atom (Single x)) t = t
  in_ok (atom (Next x y)) t = let l = leb→le (max (suc x) (suc y)) k t in next_ok x y (lt→ltb x k (omega arith)) (lt→ltb y k (omega arith))
  in_ok (atom (Multiple m)) t = t
  in_ok (not1 c) t = in_ok c t
  in_ok (and1 c d) t = let (a, b) = both_passed (ring_ok k c) (ring_ok k d) t in and_ok (in_ring c) (in_ring d) (in_ok c a) (in_ok d b)
  in_ok (some x c) t = let (a, b) = both_passed (ltb x k) (ring_ok k c) t in some_ok x (in_ring c) a (in_ok c b)

pub ring_in : RingSets
ring_in k c t = in_ok k c t

pub ring_tells : RingTells
ring_tells k c h t =
    let o = ring_in k c t in record {
      with = tells k h (further k (in_ring c)) (OfRing c) (λ v w f hw g. (let e = further_says k (in_ring c) v w h o g in let f = ring_says c w in (λ p. f.1 (e.1 p), λ p. e.0 (f.0 p))));
      without = tells k h (claims.not1 (further k (in_ring c))) (λ w. OfRing c w → ⊥) (λ v w f hw g. (let e = further_says k (in_ring c) v w h o g in let f = ring_says c w in (λ n p. n (e.0 (f.0 p)), λ n p. n (f.1 (e.1 p)))));
    }

pub ring_decided : RingDecided
ring_decided k c w h t hw =
    let e = ring_says c w in
    elim (row_decided k (in_ring c) w h (ring_in k c t) hw) [ inl p ↦ inl (e.1 p) | inr n ↦ inr (λ o. n (e.0 o)) ]
