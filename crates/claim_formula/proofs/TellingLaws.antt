-- Formulas that are put together.
use Rattle.std.proofs.Common.{ℕ, Bool, ◌⊎◌, refl, inl, inr}
use Rattle.words.specs.Words.{sets}
use Rattle.claims.specs.Claims.{C, not1, and1, Of}
use Rattle.formulas.specs.declared.formula.Formula.{Formula}
use Rattle.formulas.specs.Meaning.{Env}
use Rattle.translation.proofs.Families.{holds_or_not}
use Rattle.claim_formula.specs.Saying.{Means, Says, Tells}

-- what a formula means, it tells
pub means_tells : (σ : ℕ → Bool) (a : Formula) (P : Env → Type 0) (c : C) → Means a P → Tells σ P c → Says σ a c
means_tells σ a P c m t w e s = (λ h. (t w e s).0 ((m e).0 h), λ h. (m e).1 ((t w e s).1 h))

pub and_tells : (σ : ℕ → Bool) (P Q : Env → Type 0) (c d : C) → Tells σ P c → Tells σ Q d → Tells σ (λ e. P e × Q e) (and1 c d)
and_tells σ P Q c d p q w e s = (λ h. ((p w e s).0 h.0, (q w e s).0 h.1), λ h. ((p w e s).1 h.0, (q w e s).1 h.1))

pub not_tells : (σ : ℕ → Bool) (P : Env → Type 0) (c : C) → Tells σ P c → Tells σ (λ e. P e → ⊥) (not1 c)
not_tells σ P c p w e s = (λ n h. n ((p w e s).1 h), λ n h. n ((p w e s).0 h))

pub twice_tells : (σ : ℕ → Bool) (P : Env → Type 0) (c : C) → Tells σ P c → Tells σ P (not1 (not1 c))
twice_tells σ P c p w e s = (λ h n. n ((p w e s).0 h), λ n. (p w e s).1 (by (holds_or_not c (sets w) (w, refl)) n))
  where
    by : Dec (Of c w) → ((Of c w → ⊥) → ⊥) → Of c w
    by (yes h) n = h
    by (no k) n = absurd (n k)

-- one follows from another: not both the one and the other's opposite
pub follows_tells : (σ : ℕ → Bool) (P Q : Env → Type 0) (c d : C) → Tells σ P c → Tells σ Q (not1 d) → Tells σ (λ e. P e → Q e) (not1 (and1 c d))
follows_tells σ P Q c d p q w e s = (λ f h. (q w e s).0 (f ((p w e s).1 h.0)) h.1, λ n h. (q w e s).1 (λ g. n ((p w e s).0 h, g)))

-- one of two: not both opposites
pub either_tells : (σ : ℕ → Bool) (P Q : Env → Type 0) (c d : C) → Tells σ P c → Tells σ Q (not1 d) → Tells σ (λ e. P e ⊎ Q e) (not1 (and1 (not1 c) d))
either_tells σ P Q c d p q w e s = (
  λ f h. elim f [ inl g ↦ h.0 ((p w e s).0 g) | inr g ↦ (q w e s).0 g h.1 ],
  λ n. by (holds_or_not c (sets w) (w, refl)) n,
)
  where
    by : Dec (Of c w) → (((Of c w → ⊥) × Of d w) → ⊥) → P e ⊎ Q e
    by (yes h) n = inl ((p w e s).1 h)
    by (no k) n = inr ((q w e s).1 (λ g. n (k, g)))
