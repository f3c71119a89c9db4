-- A claim about a place, as it is made: for each kind of term it is the claim about its set.
use Rattle.std.proofs.Common.{◌≡◌, ℕ, Bool, refl}
use Rattle.claims.specs.Claims.{C}
use Rattle.formulas.specs.declared.formula.Place.{Place}
use Rattle.formulas.specs.declared.formula.Place.TheVariants.{Named}
use Rattle.translation.specs.Numbers.{Numbering}
use Rattle.translation.specs.Translation.{about}
use Rattle.formula_claims.specs.Points.{set_of, about_set}

pub about_set_is : (ρ : Numbering) (t : Place) (m : ℕ) (is_t : C) (b : Bool) (c : ℕ → C) → about_set t m is_t b (c (set_of ρ t m)) ≡ about ρ t m is_t b c
about_set_is ρ (Named x) m is_t b c = refl
about_set_is ρ t m is_t b c = refl
