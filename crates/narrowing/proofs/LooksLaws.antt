-- The machines of the claims without parts look at the sets that the claim names alone: columns in
-- which these sets have the same bits lead each state to the same one. So such a machine can be
-- searched over the columns of these sets alone, each by its least full column.
use Rattle.std.proofs.Common.{◌≡◌, ℕ, suc, ◌<◌, ◌≤◌, Bool, true, false, cond, eqb, ◌||◌, sym, refl, ap, ap₂, ◌∙◌, inl, inr, arith}
use mathlib.Core.Bool.{false≢true}
use native.Mathlib.Nat.{le-max_left, le-max_right}
use Rattle.std.proofs.lemmas.Bool.Decides.{eqb_tells}
use Rattle.words.specs.Words.{bit}
use Rattle.kinds.specs.Atoms.{sets_of}
use Rattle.kinds.specs.Counters.{counter, turn}
use Rattle.kinds.specs.Relations.{first, second}
use Rattle.kinds.specs.Residuals.{residuals, after}
use Rattle.kinds.specs.declared.atom.Atom.{Atom}
use Rattle.kinds.specs.declared.atom.Atom.TheVariants.{Related, Counted}
use Rattle.kinds.specs.declared.multiple.Multiple.{Multiple}
use Rattle.kinds.specs.declared.relation.Relation.{Relation}
use Rattle.kinds.specs.declared.residual.Residual.{Residual}
use Rattle.narrowing.specs.Columns.{extract, deposit}
use Rattle.narrowing.specs.Mentioned.{named}
use Rattle.narrowing.specs.Wide.{Sees}
use Rattle.narrowing.proofs.ColumnsLaws.{bit_kept}

pub or_left : (a b : Bool) → a ≡ true → (a || b) ≡ true
or_left true b e = refl
or_left false b e = absurd (false≢true e)

pub or_right : (a b : Bool) → b ≡ true → (a || b) ≡ true
or_right true b e = refl
or_right false b e = e

pub self : (x : ℕ) → eqb x x ≡ true
self x = elim (eqb_tells x x) [ inl p ↦ p.0 | inr p ↦ absurd (p.1 refl) ]

-- a relation names its sets
pub first_named : (r : Relation) → named (Related r) (first r) ≡ true
first_named r = or_left (eqb (first r) (first r)) (eqb (first r) (second r)) (self (first r))

pub second_named : (r : Relation) → named (Related r) (second r) ≡ true
second_named r = or_right (eqb (second r) (first r)) (eqb (second r) (second r)) (self (second r))

pub residual_looks : (r : Relation) (q : Residual) (a b : ℕ) → ((z : ℕ) → named (Related r) z ≡ true → bit z a ≡ bit z b) → (residuals r).step q a ≡ (residuals r).step q b
residual_looks r q a b h = ap₂ (after q) (h (first r) (first_named r)) (h (second r) (second_named r))

pub counter_looks : (m : Multiple) (q : ℕ) (a b : ℕ) → ((z : ℕ) → named (Counted m) z ≡ true → bit z a ≡ bit z b) → (counter m).step q a ≡ (counter m).step q b
counter_looks m q a b h = ap (λ s. cond s (turn m.remainder.modulus q) q) (h m.set (self m.set))

-- the sets that are named are among the first sets_of a
pub named_below : (a : Atom) (z : ℕ) → named a z ≡ true → z < sets_of a
named_below (Related r) z e =
    let l = le-max_left (suc (first r)) (suc (second r)) in
    let g = le-max_right (suc (first r)) (suc (second r)) in
    elim (eqb_tells z (first r)) [
      | inl p ↦ omega (arith, p.1, l)
      | inr p ↦ elim (eqb_tells z (second r)) [
        | inl q ↦ omega (arith, q.1, g)
        | inr q ↦ absurd (false≢true (sym (ap₂ (λ b c. b || c) p.0 q.0) ∙ e))
      ]
    ]
named_below (Counted m) z e = elim (eqb_tells z m.set) [ inl p ↦ omega (arith, p.1) | inr p ↦ absurd (false≢true (sym p.0 ∙ e)) ]

-- the form that a search needs
pub looks_sees : {S : Type 0} (k : ℕ) (a : Atom) (s : ℕ → Bool) (step : S → ℕ → S) → ((q : S) (b c : ℕ) → ((z : ℕ) → named a z ≡ true → bit z b ≡ bit z c) → step q b ≡ step q c) → sets_of a ≤ k → ((z : ℕ) → s z ≡ named a z) → Sees k (extract k s) step (λ q j. step q (deposit k s j))
looks_sees k a s step looks l e q c h = looks q c (deposit k s (extract k s c)) (λ z n.
    (let b = named_below a z n in sym (bit_kept k s c z (omega arith) (e z ∙ n))))
