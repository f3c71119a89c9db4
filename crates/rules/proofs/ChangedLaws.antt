-- The bits that are asked for and changed have each that is asked for and changed.
use Rattle.std.proofs.Common.{◌≡◌, ℕ, zero, suc, ◌+◌, ◌-◌, ◌<◌, ◌≤◌, Bool, true, false, cond, not, ◌&&◌, ◌||◌, T, eqb, ltb, ◌⊎◌, List, [], ◌∷◌, ◌++◌, sym, refl, inl, inr, arith, subst, lt→ltb, ltb→lt}
use mathlib.Core.Bool.{false≢true}
use native.Mathlib.Decide.{dec_lt}
use Rattle.std.proofs.lemmas.Bool.Decides.{eqb_tells}
use Rattle.claims.proofs.FrontLaws.{pass_both, both_passed}
use Rattle.formulas.specs.declared.name.Name.{Name}
use Rattle.formulas.specs.declared.name.Name.TheVariants.{OfPlace, OfGroup}
use Rattle.formulas.specs.declared.formula.Formula.{Formula}
use Rattle.formulas.specs.Names.{names}
use Rattle.rows.specs.declared.rule.Asked.{Asked}
use Rattle.rows.specs.declared.rule.Literal.{Literal}
use Rattle.rows.specs.declared.rule.Asked.TheVariants.{There, Bit}
use Rattle.rows.specs.Rules.{Line}
use Rattle.rows.specs.RowClaims.{below}
use Rattle.rows.specs.Limits.{groups_ok}
use Rattle.rows.specs.Faults.{asked_ok, literals_ok, patterns_ok, member, unchanged, all_below, has_named}
use Rattle.rules.specs.Changed.{is_bit, asks, some_asks, has_group, passing, is_needed, changed_named, named_after}

or_left : (a b : Bool) → a ≡ true → (a || b) ≡ true
or_left true b e = refl
or_left false b e = absurd (false≢true e)

or_right : (a b : Bool) → b ≡ true → (a || b) ≡ true
or_right true b e = refl
or_right false b e = e

-- a test that passes, both ways
pub is_true : (b : Bool) → b ≡ true → T b
is_true true e = tt
is_true false e = absurd (false≢true e)

pub true_is : (b : Bool) → T b → b ≡ true
true_is true t = refl
true_is false t = absurd t

eqb_refl : (j : ℕ) → eqb j j ≡ true
eqb_refl j = elim (eqb_tells j j) [ inl p ↦ p.0 | inr p ↦ absurd (p.1 refl) ]

-- a test of the bits that holds of each that is asked for
module _ (q : ℕ → Bool) where
  more_asked : (a : Asked) (p : ℕ → Bool) → T (asked_ok p a) → ((j : ℕ) → T (p j) → is_bit a j ≡ true → T (q j)) → T (asked_ok q a)
  more_asked There p t h = tt
  more_asked (Bit i) p t h = h i t (eqb_refl i)

  more_literals : (ps : List Literal) (p : ℕ → Bool) → T (literals_ok p ps) → ((j : ℕ) → T (p j) → asks ps j ≡ true → T (q j)) → T (literals_ok q ps)
  more_literals [] p t h = tt
  more_literals (l ∷ ps) p t h =
      let (a, b) = both_passed (asked_ok p l.asked) (literals_ok p ps) t in
      pass_both (asked_ok q l.asked) (literals_ok q ps) (more_asked l.asked p a (λ j k e. h j k (or_left (is_bit l.asked j) (asks ps j) e)))
      (more_literals ps p b (λ j k e. h j k (or_right (is_bit l.asked j) (asks ps j) e)))

  more_patterns : (pss : List (List Literal)) (p : ℕ → Bool) → T (patterns_ok p pss) → ((j : ℕ) → T (p j) → some_asks pss j ≡ true → T (q j)) → T (patterns_ok q pss)
  more_patterns [] p t h = tt
  more_patterns (ps ∷ pss) p t h =
      let (a, b) = both_passed (literals_ok p ps) (patterns_ok p pss) t in
      pass_both (literals_ok q ps) (patterns_ok q pss) (more_literals ps p a (λ j k e. h j k (or_left (asks ps j) (some_asks pss j) e)))
      (more_patterns pss p b (λ j k e. h j k (or_right (asks ps j) (some_asks pss j) e)))

-- and of each name
more_groups : (p q : ℕ → Bool) (l : List Name) → T (groups_ok p l) → ((x : ℕ) → T (p x) → has_group l x ≡ true → T (q x)) → T (groups_ok q l)
more_groups p q [] t h = tt
more_groups p q (OfPlace y ∷ l) t h = absurd t
more_groups p q (OfGroup y ∷ l) t h =
    let (a, b) = both_passed (p y) (groups_ok p l) t in
    pass_both (q y) (groups_ok q l) (h y a (or_left (eqb y y) (has_group l y) (eqb_refl y))) (more_groups p q l b (λ x k e. h x k (or_right (eqb y x) (has_group l x) e)))

or_later : (b m n : Bool) → (m ≡ true → n ≡ true) → (b || m) ≡ true → (b || n) ≡ true
or_later true m n h e = refl
or_later false m n h e = h e

member_left : (as₁ bs : List ℕ) (j : ℕ) → member as₁ j ≡ true → member (as₁ ++ bs) j ≡ true
member_left [] bs j e = absurd (false≢true e)
member_left (a ∷ as₁) bs j e = or_later (eqb j a) (member as₁ j) (member (as₁ ++ bs) j) (member_left as₁ bs j) e

member_right : (as₁ bs : List ℕ) (j : ℕ) → member bs j ≡ true → member (as₁ ++ bs) j ≡ true
member_right [] bs j e = e
member_right (a ∷ as₁) bs j e = or_right (eqb j a) (member (as₁ ++ bs) j) (member_right as₁ bs j e)

below_append : (b : ℕ) (as₁ bs : List ℕ) → T (all_below b as₁) → T (all_below b bs) → T (all_below b (as₁ ++ bs))
below_append b [] bs s t = t
below_append b (a ∷ as₁) bs s t = let (p, q) = both_passed (ltb a b) (all_below b as₁) s in pass_both (ltb a b) (all_below b (as₁ ++ bs)) p (below_append b as₁ bs q t)

below_one : (b j : ℕ) (t : Bool) → j < b → T (all_below b (cond t (j ∷ []) []))
below_one b j true h = pass_both (ltb j b) true (lt→ltb j b h) tt
below_one b j false h = tt

module _ (test : ℕ → Bool) where
  pub passing_below : (b n : ℕ) → n ≤ b → T (all_below b (passing test n))
  passing_below b zero h = tt
  passing_below b (suc n) h = below_append b (passing test n) _ (passing_below b n (omega arith)) (below_one b n (test n) (omega arith))

  here : (j : ℕ) (t : Bool) → t ≡ true → member (cond t (j ∷ []) []) j ≡ true
  here j true e = or_left (eqb j j) false (eqb_refl j)
  here j false e = absurd (false≢true e)

  pub passing_has : (n j : ℕ) → j < n → test j ≡ true → member (passing test n) j ≡ true
  passing_has zero j h e = let z : ⊥ = omega arith in absurd z
  passing_has (suc n) j h e = elim (eqb_tells j n) [
    | inl p ↦ member_right (passing test n) _ j (let q : j ≡ n = p.1 in subst (λ m. member (cond (test m) (m ∷ []) []) j ≡ true) q (here j (test j) e))
    | inr p ↦ member_left (passing test n) _ j (let d = p.1 in passing_has n j (omega arith) e)
  ]

-- the bits that are changed have all that a claim needs
module _ (b : ℕ) (pss : List (List Literal)) (ns : List Name) (R : List Line) where
  abbrev js : List ℕ
  js = changed_named b pss ns R

  needed : (a u : Bool) → a ≡ true → u ≡ false → (a && not u) ≡ true
  needed true false e f = refl
  needed true true e f = absurd (false≢true (sym f))
  needed false u e f = absurd (false≢true e)

  seen : (j : ℕ) (u : Bool) → j < b → (some_asks pss j || has_group (ns) j) ≡ true → unchanged R j ≡ u → T (member js j || u)
  seen j true h a e = is_true _ (or_right (member js j) true refl)
  seen j false h a e = is_true _ (or_left (member js j) false (passing_has (is_needed pss ns R) b j h (needed (some_asks pss j || has_group (ns) j) (unchanged R j) a e)))

  named : (x : ℕ) → ((eqb x b ≡ true) × (x ≡ b)) ⊎ ((eqb x b ≡ false) × (x ≡ b → ⊥)) → x < suc b → has_group (ns) x ≡ true → T (eqb x b || (member js x || unchanged R x))
  named x (inl p) h e = rw p.0 tt
  named x (inr p) h e = let d = p.1 in rw p.0 (seen x (unchanged R x) (omega arith) (or_right (some_asks pss x) (has_group (ns) x) e) refl)

  pub has_them : T (patterns_ok (below b) pss) → T (groups_ok (λ x. ltb x (suc b)) ns) → T (all_below b js && (patterns_ok (λ j. member js j || unchanged R j) pss && groups_ok (λ x. eqb x b || (member js x || unchanged R x)) ns))
  has_them t k =
      pass_both (all_below b js) (patterns_ok (λ j. member js j || unchanged R j) pss && groups_ok (λ x. eqb x b || (member js x || unchanged R x)) (ns)) (passing_below (is_needed pss ns R) b b (omega arith))
      (pass_both (patterns_ok (λ j. member js j || unchanged R j) pss) (groups_ok (λ x. eqb x b || (member js x || unchanged R x)) (ns))
      (more_patterns (λ j. member js j || unchanged R j) pss (below b) t (λ j m e. seen j (unchanged R j) (ltb→lt j b m) (or_left (some_asks pss j) (has_group (ns) j) e) refl))
      (more_groups (λ x. ltb x (suc b)) (λ x. eqb x b || (member js x || unchanged R x)) (ns) k (λ x m e. named x (eqb_tells x b) (ltb→lt x (suc b) m) e)))

-- and so have the bits of the row after that a formula names
pub has_named_them : (b : ℕ) (a : Formula) → T (groups_ok (λ x. ltb x (suc (b + b))) (names a)) → T (has_named b (named_after b a) a)
has_named_them b a t =
    pass_both (all_below b ks) (groups_ok (λ x. ltb x (suc b) || member ks (x - suc b)) (names a)) (passing_below test b b (omega arith))
    (more_groups (λ x. ltb x (suc (b + b))) (λ x. ltb x (suc b) || member ks (x - suc b)) (names a) t (λ x m e. at x (ltb→lt x (suc (b + b)) m) e (dec_lt x (suc b))))
  where
    ks : List ℕ
    ks = named_after b a

    test : ℕ → Bool
    test j = has_group (names a) (suc b + j)

    at : (x : ℕ) → x < suc (b + b) → has_group (names a) x ≡ true → Dec (x < suc b) → T (ltb x (suc b) || member ks (x - suc b))
    at x h e (yes l) = is_true _ (or_left (ltb x (suc b)) (member ks (x - suc b)) (true_is _ (lt→ltb x (suc b) l)))
    at x h e (no l) =
        let q : x ≡ suc b + (x - suc b) = omega arith in
        is_true _ (or_right (ltb x (suc b)) (member ks (x - suc b)) (passing_has test b (x - suc b) (omega arith) (subst (λ z. has_group (names a) z ≡ true) q e)))
