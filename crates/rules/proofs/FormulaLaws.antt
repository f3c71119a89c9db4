-- Names that get their sets one after the other, the highest first.
use Rattle.std.proofs.Common.{◌≡◌, ℕ, zero, suc, ◌-◌, sub-one, refl}
use Rattle.formulas.specs.declared.name.Name.TheVariants.{OfGroup}
use Rattle.translation.specs.Numbers.{Numbering, numbered}
use Rattle.rows.specs.Limits.{bound}

pub bound_down : (n : ℕ) (y : ℕ → ℕ) (ρ : Numbering) (m : ℕ) → (n ≡ 0 → ⊥) → m ≡ y (n - 1) → bound (n - 1) y (numbered ρ (OfGroup (n - 1)) m) ≡ bound n y ρ
bound_down zero y ρ m h e = absurd (h refl)
bound_down (suc n) y ρ m h e = rw (e, sub-one) refl
