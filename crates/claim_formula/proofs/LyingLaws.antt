-- What places sets have that are made of two.
use Rattle.std.proofs.Common.{◌≡◌, ℕ, Bool, true, ◌&&◌, ◌||◌, not, ◌↔◌, List, sym, refl, ◌∙◌, inl, inr}
use Rattle.claims.specs.Claims.{has}
use Rattle.formulas.specs.Sets.{mix}
use Rattle.formulas.proofs.SetsLaws.{mix_has, and_true, but_true, or_true}

pub inter_says : (u w : List Bool) (i : ℕ) → (has (mix (λ a b. a && b) u w) i ≡ true) ↔ ((has u i ≡ true) × (has w i ≡ true))
inter_says u w i =
    let m = mix_has (λ a b. a && b) u w i refl in
    let r = and_true (has u i) (has w i) in
    (λ h. r.1 (sym m ∙ h), λ h. m ∙ r.0 h)

pub minus_says : (u w : List Bool) (i : ℕ) → (has (mix (λ a b. a && not b) u w) i ≡ true) ↔ ((has u i ≡ true) × (has w i ≡ true → ⊥))
minus_says u w i =
    let m = mix_has (λ a b. a && not b) u w i refl in
    let r = but_true (has u i) (has w i) in
    (λ h. r.1 (sym m ∙ h), λ h. m ∙ r.0 h)

pub union_says : (u w : List Bool) (i : ℕ) → (has (mix (λ a b. a || b) u w) i ≡ true → ⊥) ↔ ((has u i ≡ true → ⊥) × (has w i ≡ true → ⊥))
union_says u w i =
    let m = mix_has (λ a b. a || b) u w i refl in
    let r = or_true (has u i) (has w i) in
    (λ n. (λ h. n (m ∙ r.0 (inl h)), λ h. n (m ∙ r.0 (inr h))), λ n h. elim (r.1 (sym m ∙ h)) [ inl g ↦ n.0 g | inr g ↦ n.1 g ])
