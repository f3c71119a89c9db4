-- What is posed is the claim under the assumptions, or its opposite under them.
use Rattle.std.proofs.Common.{◌↔◌, Bool, true, false}
use Rattle.resolve.specs.Says.{either}
use Rattle.resolve.proofs.Iff.{iff_not}

pub posed_says : (b : Bool) (R P Q A C : Type 0) → P ↔ A → Q ↔ C → (R × (P × either b (Q → ⊥) Q)) ↔ either b ((R × A) × (C → ⊥)) ((R × A) × C)
posed_says true R P Q A C f g = (λ h. ((h.0, f.0 h.1.0), (iff_not g).0 h.1.1), λ h. (h.0.0, (f.1 h.0.1, (iff_not g).1 h.1)))
posed_says false R P Q A C f g = (λ h. ((h.0, f.0 h.1.0), g.0 h.1.1), λ h. (h.0.0, (f.1 h.0.1, g.1 h.1)))
