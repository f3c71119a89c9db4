-- The bits of masks and columns.
use Rattle.std.proofs.Common.{◌≡◌, ℕ, zero, suc, ◌+◌, ◌-◌, ◌*◌, ◌/◌, ◌%◌, ◌^◌, ◌<◌, true, refl, ◌∙◌, inl, inr, pow-suc, arith, max, ◌||◌, eqb, ap}
use lib.Bits.{bit_or, or_step}
use Rattle.std.proofs.lemmas.Bool.Decides.{eqb_tells}
use Rattle.words.specs.Words.{bit}
use Rattle.words.proofs.BitsLaws.{bit_zero}

-- one bit more
pub doubled : (k r b : ℕ) → (k ≡ 0 → ⊥) → r < 2 ^ (k - 1) → b < 2 → 2 * r + b < 2 ^ k
doubled zero r b n h g = absurd (n refl)
doubled (suc k) r b n h g = let i : suc k - 1 ≡ k = omega arith in let h' = rw i at h in omega (arith, pow-suc 2 k)

-- the bits of an or are those of either
pub bit_either : (x a b : ℕ) → bit x (bit_or a b) ≡ (bit x a || bit x b)
bit_either zero a b = let e = or_step a b in let h : bit_or a b % 2 ≡ max (a % 2) (b % 2) = omega arith in rw h (by (a % 2) (b % 2) (omega arith) (omega arith))
  where
    by : (p q : ℕ) → p < 2 → q < 2 → eqb (max p q) 1 ≡ (eqb p 1 || eqb q 1)
    by zero zero h g = refl
    by zero (suc zero) h g = refl
    by zero (suc (suc q)) h g = let z : ⊥ = omega arith in absurd z
    by (suc zero) zero h g = refl
    by (suc zero) (suc zero) h g = refl
    by (suc zero) (suc (suc q)) h g = let z : ⊥ = omega arith in absurd z
    by (suc (suc p)) q h g = let z : ⊥ = omega arith in absurd z
bit_either (suc x) a b = let e = or_step a b in let h : bit_or a b / 2 ≡ bit_or (a / 2) (b / 2) = omega arith in rw h (bit_either x (a / 2) (b / 2))

-- two bits put into none
pub bits_two : (x y a b : ℕ) → bit x a ≡ true → ((z : ℕ) → (z ≡ x → ⊥) → bit z a ≡ bit z 0) → bit y b ≡ true → ((z : ℕ) → (z ≡ y → ⊥) → bit z b ≡ bit z a) → (z : ℕ) → bit z b ≡ (eqb z x || eqb z y)
bits_two x y a b hx ox hy oy z = elim (eqb_tells z x) [
  | inl p ↦ elim (eqb_tells z y) [ inl q ↦ rw p.0 (ap (λ t. bit t b) q.1 ∙ hy) | inr q ↦ rw p.0 (oy z q.1 ∙ ap (λ t. bit t a) p.1 ∙ hx) ]
  | inr p ↦ elim (eqb_tells z y) [ inl q ↦ rw (p.0, q.0) (ap (λ t. bit t b) q.1 ∙ hy) | inr q ↦ rw (p.0, q.0) (oy z q.1 ∙ ox z p.1 ∙ bit_zero z) ]
]
