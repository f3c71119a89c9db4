-- Numbers of sets that nothing names.
use Rattle.std.proofs.Common.{◌≡◌, ℕ, zero, suc, ◌+◌, ◌≤◌, Bool, true, false, cond, ◌||◌, eqb, sym, refl, subst, inl, inr, arith}
use Rattle.std.proofs.lemmas.Bool.Decides.{eqb_tells}
use Rattle.rows.specs.declared.rule.Layout.{Layout}
use Rattle.rows.specs.declared.rule.Layout.TheVariants as layout
use Rattle.rows.specs.Local.{Local, all, sees, non, both, before, behind, names, above, first_free, fresh, beside}
use Rattle.rows.proofs.Bools.{bool_apart, or_left, or_right}

-- numbers that nothing names
above_names : (f : Local) (y : ℕ) → above f ≤ y → names f y ≡ false
above_names all y h = refl
above_names (sees x) y h = elim (eqb_tells y x) [ inl p ↦ (let e = p.1 in let z : ⊥ = omega arith in absurd z) | inr p ↦ p.0 ]
above_names (non f) y h = above_names f y h
above_names (both f g) y h = let e = above_names f y (omega arith) in let d = above_names g y (omega arith) in cc
above_names (before f) y h = above_names f y h
above_names (behind f) y h = above_names f y h

free_at : (b : Bool) (taken : ℕ → Bool) (m i : ℕ) → taken i ≡ b → taken m ≡ false → taken (cond b m i) ≡ false
free_at true taken m i e h = h
free_at false taken m i e h = e

free_is : (n : ℕ) (taken : ℕ → Bool) (i : ℕ) → taken (i + n) ≡ false → taken (first_free n taken i) ≡ false
free_is zero taken i h = let z : i + 0 ≡ i = omega arith in subst (λ q. taken q ≡ false) z h
free_is (suc n) taken i h =
    free_at (taken i) taken (first_free n taken (suc i)) i refl (free_is n taken (suc i) (let z : suc i + n ≡ i + suc n = omega arith in subst (λ q. taken q ≡ false) (sym z) h))

pub none_taken : (p : ℕ) (f : Local) → (eqb (suc p + above f) p || names f (suc p + above f)) ≡ false
none_taken p f = elim (eqb_tells (suc p + above f) p) [
  | inl e ↦ (let q = e.1 in let z : ⊥ = omega arith in absurd z)
  | inr e ↦ (let q = e.0 in let z = above_names f (suc p + above f) (omega arith) in cc)
]

pub fresh_free : (p : ℕ) (f : Local) → (eqb (fresh p f) p || names f (fresh p f)) ≡ false
fresh_free p f = free_is (suc p + above f) (λ y. eqb y p || names f y) 0 (let z : 0 + (suc p + above f) ≡ suc p + above f = omega arith in rw z (none_taken p f))

pub eqb_same : (p : ℕ) → eqb p p ≡ true
eqb_same p = elim (eqb_tells p p) [ inl e ↦ e.0 | inr e ↦ absurd (e.1 refl) ]

pub fresh_other : (p : ℕ) (f : Local) → p ≡ fresh p f → ⊥
fresh_other p f e = bool_apart (or_left (eqb (fresh p f) p) (names f (fresh p f)) (subst (λ z. eqb z p ≡ true) e (eqb_same p))) (fresh_free p f)

pub fresh_unnamed : (p : ℕ) (f : Local) (y : ℕ) → names f y ≡ true → y ≡ fresh p f → ⊥
fresh_unnamed p f y h e = bool_apart (or_right (eqb (fresh p f) p) (names f (fresh p f)) (subst (λ z. names f z ≡ true) e h)) (fresh_free p f)

-- the number of a place beside p is another one, and no name of f; in a ring it is not the row's
pub beside_other : (s : Layout) (r p : ℕ) (f : Local) → p ≡ beside s r p f → ⊥
beside_other layout.Line r p f = fresh_other p f
beside_other layout.Ring r p f = fresh_other p (both (sees r) f)

pub beside_unnamed : (s : Layout) (r p : ℕ) (f : Local) (y : ℕ) → names f y ≡ true → y ≡ beside s r p f → ⊥
beside_unnamed layout.Line r p f y h = fresh_unnamed p f y h
beside_unnamed layout.Ring r p f y h = fresh_unnamed p (both (sees r) f) y (or_right (eqb y r) (names f y) h)

pub beside_row : (r p : ℕ) (f : Local) → r ≡ beside layout.Ring r p f → ⊥
beside_row r p f = fresh_unnamed p (both (sees r) f) r (or_left (eqb r r) (names f r) (eqb_same r))
