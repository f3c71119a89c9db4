-- The same ring turned: every ring claim holds of both words or of neither.
use Rattle.std.proofs.Common.{◌≡◌, ℕ, zero, suc, ◌<◌, Bool, true, false, cond, eqb, ◌⊎◌, ◌↔◌, List, [], ◌∷◌, ◌++◌, length, sym, refl, ap, ◌∙◌, subst, inl, inr, arith, append_assoc, append-nil, length-append}
use Rattle.std.proofs.lemmas.Bool.Decides.{eqb_tells}
use Rattle.words.specs.Words.{Sets, Word, bit, sets}
use Rattle.kinds.specs.Counts.{places}
use Rattle.kinds.specs.Meaning.{counted}
use Rattle.kinds.specs.Relations.{Only}
use Rattle.claims.specs.Claims.{has, put}
use Rattle.translation.proofs.Opened.{within_holds, single_holds}
use Rattle.rows.proofs.Bools.{bool_apart}
use Rattle.row_claims.specs.Meaning.{Inside}
use Rattle.ring_claims.specs.Meaning.{RingClaim, atom, not1, and1, some, NextOf, HoldsRing, OfRing}
use Rattle.ring_claims.specs.declared.atom.RingAtom.TheVariants.{Within, Single, Next, Multiple}
use Rattle.ring_claims.specs.Laws.{SameTurned}
use Rattle.ring_claims.proofs.RingsAsRows.{Ending, put_ending, word_ending}
use Rattle.ring_claims.proofs.RingPlaces.{same_places, places_turned}

-- a set of a row by its marks
abbrev tab : ℕ → (ℕ → Bool) → List Bool
tab zero f = []
tab (suc n) f = f 0 ∷ tab n (λ i. f (suc i))

tab_inside : (n : ℕ) (f : ℕ → Bool) → Inside n (tab n f)
tab_inside zero f i e = bool_apart e refl
tab_inside (suc n) f zero e = omega arith
tab_inside (suc n) f (suc i) e = let z = tab_inside n (λ i. f (suc i)) i e in omega arith

tab_has : (n : ℕ) (f : ℕ → Bool) (i : ℕ) → i < n → has (tab n f) i ≡ f i
tab_has zero f i h = let z : ⊥ = omega arith in absurd z
tab_has (suc n) f zero h = refl
tab_has (suc n) f (suc i) h = tab_has n (λ i. f (suc i)) i (omega arith)

-- places moved about in a way that keeps what is next to what
module _ (n : ℕ) (σ τ : ℕ → ℕ) (σ_below : (i : ℕ) → i < n → σ i < n) (τ_below : (i : ℕ) → i < n → τ i < n) (στ : (i : ℕ) → i < n → σ (τ i) ≡ i) (τσ : (i : ℕ) → i < n → τ (σ i) ≡ i)
    (to : (i j : ℕ) → i < n → j < n → NextOf n i j → NextOf n (σ i) (σ j)) (from : (i j : ℕ) → i < n → j < n → NextOf n i j → NextOf n (τ i) (τ j))
    (count : (s t : ℕ → Bool) → ((i : ℕ) → i < n → t i ≡ s (σ i)) → places s n ≡ places t n) where
  -- w is v moved
  abbrev Moved : Sets → Sets → Type 0
  Moved v w = (x i : ℕ) → i < n → w x i ≡ v x (σ i)

  back : (v w : Sets) → Moved v w → (x i : ℕ) → i < n → w x (τ i) ≡ v x i
  back v w m x i h = m x (τ i) (τ_below i h) ∙ ap (λ q. v x q) (στ i h)

  only_to : (v w : Sets) → Ending n v → Ending n w → Moved v w → (x a : ℕ) → Only v x a → Only w x (τ a)
  only_to v w bv bw m x a o = (back v w m x a (bv x a o.0) ∙ o.0, λ j e. (let l = bw x j e in sym (τσ j l) ∙ ap τ (o.1 (σ j) (sym (m x j l) ∙ e))))

  only_from : (v w : Sets) → Ending n v → Ending n w → Moved v w → (x a : ℕ) → Only w x a → Only v x (σ a)
  only_from v w bv bw m x a o = (sym (m x a (bw x a o.0)) ∙ o.0, λ j e. (let l = bv x j e in sym (στ j l) ∙ ap σ (o.1 (τ j) (back v w m x j l ∙ e))))

  moved_put : (v w : Sets) (x : ℕ) (u t : List Bool) → Moved v w → ((i : ℕ) → i < n → has t i ≡ has u (σ i)) → Moved (put v x u) (put w x t)
  moved_put v w x u t m e y i h = at (eqb y x)
    where
      at : (b : Bool) → cond b (has t i) (w y i) ≡ cond b (has u (σ i)) (v y (σ i))
      at true = e i h
      at false = m y i h

  pub moved_says : (c : RingClaim) (v w : Sets) → Ending n v → Ending n w → Moved v w → HoldsRing c n v ↔ HoldsRing c n w
  moved_says (atom (Within x y)) v w bv bw m = (
    λ h. (within_holds x y w).1 (λ i e. (let l = bw x i e in m y i l ∙ (within_holds x y v).0 h (σ i) (sym (m x i l) ∙ e))),
    λ h. (within_holds x y v).1 (λ i e. (let l = bv x i e in sym (back v w m y i l) ∙ (within_holds x y w).0 h (τ i) (back v w m x i l ∙ e))),
  )
  moved_says (atom (Single x)) v w bv bw m = (
    λ h. (let (i, o) = (single_holds x v).0 h in (single_holds x w).1 (τ i, only_to v w bv bw m x i o)),
    λ h. (let (i, o) = (single_holds x w).0 h in (single_holds x v).1 (σ i, only_from v w bv bw m x i o)),
  )
  moved_says (atom (Next x y)) v w bv bw m = (
    λ h. (τ h.0, τ h.1, only_to v w bv bw m x h.0 h.2, only_to v w bv bw m y h.1 h.3, from h.0 h.1 (bv x h.0 h.2.0) (bv y h.1 h.3.0) h.4),
    λ h. (σ h.0, σ h.1, only_from v w bv bw m x h.0 h.2, only_from v w bv bw m y h.1 h.3, to h.0 h.1 (bw x h.0 h.2.0) (bw y h.1 h.3.0) h.4),
  )
  moved_says (atom (Multiple c)) v w bv bw m =
      let e = count (v c.set) (w c.set) (m c.set) in (
        λ h. (let (a, t, l, p) = (counted c v).0 h in (counted c w).1 (n, t, bw c.set, sym e ∙ (same_places (v c.set) n a (bv c.set) l ∙ p))),
        λ h. (let (a, t, l, p) = (counted c w).0 h in (counted c v).1 (n, t, bv c.set, e ∙ (same_places (w c.set) n a (bw c.set) l ∙ p))),
      )
  moved_says (not1 c) v w bv bw m = let e = moved_says c v w bv bw m in (λ h g. h (e.1 g), λ h g. h (e.0 g))
  moved_says (and1 c d) v w bv bw m = let e = moved_says c v w bv bw m in let f = moved_says d v w bv bw m in (λ h. (e.0 h.0, f.0 h.1), λ h. (e.1 h.0, f.1 h.1))
  moved_says (some x c) v w bv bw m = (
    λ h. (let (u, l, g) = h in
        let t = tab n (λ i. has u (σ i)) in
        let lt = tab_inside n (λ i. has u (σ i)) in
        (t, lt, (moved_says c (put v x u) (put w x t) (put_ending n v x u bv l) (put_ending n w x t bw lt) (moved_put v w x u t m (λ i k. tab_has n (λ i. has u (σ i)) i k))).0 g)),
    λ h. (let (t, l, g) = h in
        let u = tab n (λ i. has t (τ i)) in
        let lu = tab_inside n (λ i. has t (τ i)) in (
          u,
          lu,
          (moved_says c (put v x u) (put w x t) (put_ending n v x u bv lu) (put_ending n w x t bw l)
              (moved_put v w x u t m (λ i k. sym (tab_has n (λ i. has t (τ i)) (σ i) (σ_below i k) ∙ ap (λ q. has t q) (τσ i k))))).1 g,
        )),
  )

-- turned by one place
on_one : ℕ → ℕ → ℕ
on_one m i = cond (eqb i m) 0 (suc i)

back_one : ℕ → ℕ → ℕ
back_one m zero = m
back_one m (suc i) = i

on_is : (m i : ℕ) → ((i ≡ m) × (on_one m i ≡ 0)) ⊎ ((i ≡ m → ⊥) × (on_one m i ≡ suc i))
unfolding on_one
on_is m i = elim (eqb_tells i m) [ inl p ↦ inl (p.1, rw p.0) | inr p ↦ inr (p.1, rw p.0) ]

on_last : (m : ℕ) → on_one m m ≡ 0
on_last m = elim (on_is m m) [ inl p ↦ p.1 | inr p ↦ absurd (p.0 refl) ]

on_other : (m i : ℕ) → i < m → on_one m i ≡ suc i
on_other m i h = elim (on_is m i) [ inl p ↦ (let e = p.0 in let z : ⊥ = omega arith in absurd z) | inr p ↦ p.1 ]

back_is : (m i : ℕ) → ((i ≡ 0) × (back_one m i ≡ m)) ⊎ (i ≡ suc (back_one m i))
unfolding back_one
back_is m zero = inl (refl, refl)
back_is m (suc i) = inr refl

-- the arithmetic of both
step_to : (m i j p q : ℕ) → i < suc m → j < suc m → NextOf (suc m) i j → ((i ≡ m) × (p ≡ 0)) ⊎ ((i ≡ m → ⊥) × (p ≡ suc i)) → ((j ≡ m) × (q ≡ 0)) ⊎ ((j ≡ m → ⊥) × (q ≡ suc j)) → NextOf (suc m) p q
step_to m i j p q hi hj (inl e) (inl a) c = let z = a.0 in let f : ⊥ = omega arith in absurd f
step_to m i j p q hi hj (inl e) (inr a) (inl c) = inr (let x = a.1 in let y = c.0 in omega arith, c.1)
step_to m i j p q hi hj (inl e) (inr a) (inr c) = inl (let x = a.1 in let y = c.1 in omega arith)
step_to m i j p q hi hj (inr e) (inl a) (inl c) = let x = e.1 in let y = c.0 in let z = c.1 in let w = a.1 in inr (omega arith, z)
step_to m i j p q hi hj (inr e) (inl a) (inr c) = let x = e.1 in let y = c.1 in let w = a.1 in inl (omega arith)
step_to m i j p q hi hj (inr e) (inr a) c = let x = e.0 in absurd (a.0 (omega arith))

step_from : (m i j p q : ℕ) → i < suc m → j < suc m → NextOf (suc m) i j → ((i ≡ 0) × (p ≡ m)) ⊎ (i ≡ suc p) → ((j ≡ 0) × (q ≡ m)) ⊎ (j ≡ suc q) → NextOf (suc m) p q
step_from m i j p q hi hj (inl e) (inl a) (inl c) = let x = c.0 in let f : ⊥ = omega arith in absurd f
step_from m i j p q hi hj (inl e) (inl a) (inr c) = let x = a.0 in let y = a.1 in inr (omega arith, omega arith)
step_from m i j p q hi hj (inl e) (inr a) (inl c) = let x = c.0 in let f : ⊥ = omega arith in absurd f
step_from m i j p q hi hj (inl e) (inr a) (inr c) = inl (omega arith)
step_from m i j p q hi hj (inr e) (inl a) (inl c) = let x = a.0 in let y = a.1 in let z = c.1 in let w = e.0 in inr (omega arith, omega arith)
step_from m i j p q hi hj (inr e) (inr a) (inl c) = let y = c.1 in let w = e.0 in inl (omega arith)
step_from m i j p q hi hj (inr e) a (inr c) = let y = e.1 in let f : ⊥ = omega arith in absurd f

module _ (a : ℕ) (w : Word) where
  end_length : length (w ++ (a ∷ [])) ≡ suc (length w)
  end_length = let e = length-append w (a ∷ []) in let f : length (a ∷ []) ≡ 1 = refl in omega arith

  one_moved : (x i : ℕ) → i < suc (length w) → sets (w ++ (a ∷ [])) x i ≡ sets (a ∷ w) x (on_one (length w) i)
  one_moved x i h = at (on_is (length w) i)
    where
      inner : (u : Word) (i : ℕ) → i < length u → sets (u ++ (a ∷ [])) x i ≡ sets u x i
      inner [] i h = let z : ⊥ = omega arith in absurd z
      inner (b ∷ u) zero h = refl
      inner (b ∷ u) (suc i) h = inner u i (omega arith)

      outer : (u : Word) → sets (u ++ (a ∷ [])) x (length u) ≡ bit x a
      outer [] = refl
      outer (b ∷ u) = outer u

      at : ((i ≡ length w) × (on_one (length w) i ≡ 0)) ⊎ ((i ≡ length w → ⊥) × (on_one (length w) i ≡ suc i)) → sets (w ++ (a ∷ [])) x i ≡ sets (a ∷ w) x (on_one (length w) i)
      at (inl e) = ap (λ z. sets (w ++ (a ∷ [])) x z) e.0 ∙ (outer w ∙ sym (ap (λ z. sets (a ∷ w) x z) e.1))
      at (inr e) = inner w i (below e.0) ∙ sym (ap (λ z. sets (a ∷ w) x z) e.1)
        where
          below : (i ≡ length w → ⊥) → i < length w
          below n = omega arith

  turned_one : (c : RingClaim) → OfRing c (a ∷ w) ↔ OfRing c (w ++ (a ∷ []))
  turned_one c =
      let m = length w in
      subst (λ n. HoldsRing c (suc m) (sets (a ∷ w)) ↔ HoldsRing c n (sets (w ++ (a ∷ [])))) (sym end_length)
      (moved_says (suc m) (on_one m) (back_one m)
      (λ i h. elim (on_is m i) [ inl e ↦ (let z = e.1 in omega arith) | inr e ↦ less i h e.0 e.1 ])
      (λ i h. elim (back_is m i) [ inl e ↦ (let z = e.1 in omega arith) | inr e ↦ omega arith ])
      (λ i h. around i (back_one m i) (on_one m (back_one m i)) h (back_is m i) (on_is m (back_one m i)))
      (λ i h. again i (on_one m i) (back_one m (on_one m i)) h (on_is m i) (back_is m (on_one m i)))
      (λ i j hi hj b. step_to m i j (on_one m i) (on_one m j) hi hj b (on_is m i) (on_is m j))
      (λ i j hi hj b. step_from m i j (back_one m i) (back_one m j) hi hj b (back_is m i) (back_is m j))
      (λ s t h. places_turned s t m (λ i l. h i (omega arith) ∙ ap s (on_other m i l)) (h m (omega arith) ∙ ap s (on_last m)))
      c (sets (a ∷ w)) (sets (w ++ (a ∷ []))) (word_ending (a ∷ w)) (subst (λ n. Ending n (sets (w ++ (a ∷ [])))) end_length (word_ending (w ++ (a ∷ [])))) one_moved)
    where
      less : (i : ℕ) → i < suc (length w) → (i ≡ length w → ⊥) → on_one (length w) i ≡ suc i → on_one (length w) i < suc (length w)
      less i h n e = omega arith

      around : (i p q : ℕ) → i < suc (length w) → ((i ≡ 0) × (p ≡ length w)) ⊎ (i ≡ suc p) → ((p ≡ length w) × (q ≡ 0)) ⊎ ((p ≡ length w → ⊥) × (q ≡ suc p)) → q ≡ i
      around i p q h (inl e) (inl f) = let x = e.0 in let y = f.1 in omega arith
      around i p q h (inl e) (inr f) = absurd (f.0 e.1)
      around i p q h (inr e) (inl f) = let x = f.0 in let z : ⊥ = omega arith in absurd z
      around i p q h (inr e) (inr f) = let y = f.1 in omega arith

      again : (i p q : ℕ) → i < suc (length w) → ((i ≡ length w) × (p ≡ 0)) ⊎ ((i ≡ length w → ⊥) × (p ≡ suc i)) → ((p ≡ 0) × (q ≡ length w)) ⊎ (p ≡ suc q) → q ≡ i
      again i p q h (inl e) (inl f) = let x = e.0 in let y = f.1 in omega arith
      again i p q h (inl e) (inr f) = let x = e.1 in let z : ⊥ = omega arith in absurd z
      again i p q h (inr e) (inl f) = let x = e.1 in let y = f.0 in let z : ⊥ = omega arith in absurd z
      again i p q h (inr e) (inr f) = let x = e.1 in omega arith

turned : (c : RingClaim) (a b : Word) → OfRing c (a ++ b) ↔ OfRing c (b ++ a)
turned c [] b = subst (λ z. OfRing c b ↔ OfRing c z) (sym (append-nil b)) (λ h. h, λ h. h)
turned c (x ∷ a) b =
    let one = turned_one x (a ++ b) c in
    let rest = turned c a (b ++ (x ∷ [])) in
    let e : (a ++ b) ++ (x ∷ []) ≡ a ++ (b ++ (x ∷ [])) = append_assoc a b (x ∷ []) in
    let f : (b ++ (x ∷ [])) ++ a ≡ b ++ (x ∷ a) = append_assoc b (x ∷ []) a in
    (λ h. subst (OfRing c) f (rest.0 (subst (OfRing c) e (one.0 h))), λ h. one.1 (subst (OfRing c) (sym e) (rest.1 (subst (OfRing c) (sym f) h))))

pub same_turned : SameTurned
same_turned c u w t =
    let (a, b, e, f) = t in
    let g = turned c a b in
    (λ h. subst (OfRing c) (sym f) (g.0 (subst (OfRing c) e h)), λ h. subst (OfRing c) (sym e) (g.1 (subst (OfRing c) f h)))
