use Rattle.std.proofs.Common.{◌≡◌, ℕ, ◌<◌, ◌≤◌, Bool, get_or}
use Rattle.tables.specs.Cells.{accepts}
use Rattle.minimize.proofs.parts.by_acceptance.Given as goal

-- a class before q is in part 0 if it accepts as class 0 does, else in part 1; where there is such
-- a class, the first of them is known
pub record Accepting (f : ℕ → Bool) (q : ℕ) (cls first : ℕ → ℕ) (count : ℕ) : Type 0 where
  pub some : 1 ≤ count
  pub two : count ≤ 2
  pub start : first 0 ≡ 0
  pub as_start : (p : ℕ) → p < q → f p ≡ f 0 → cls p ≡ 0
  pub not_start : (p : ℕ) → p < q → (f p ≡ f 0 → ⊥) → (cls p ≡ 1) × (count ≡ 2) × (first 1 ≤ p)
  pub second : count ≡ 2 → (first 1 < q) × (f (first 1) ≡ f 0 → ⊥)

abbrev pub invariant-loop-q : goal.invariant-loop-q
invariant-loop-q l = Accepting (accepts l.t.accept.now) l.q (λ p. get_or l.cls p 0) (λ i. get_or l.firsts i 0) l.count
