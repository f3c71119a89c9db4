-- How many places a set has: a place is a set of one.
use Rattle.std.proofs.Common.{◌≡◌, ℕ, zero, suc, ◌+◌, ◌*◌, ◌≤◌, Bool, true, false, sym, refl, ◌∙◌, arith}
use Rattle.words.specs.Words.{sets}
use Rattle.kinds.specs.declared.multiple.Multiple.{Multiple}
use Rattle.claims.specs.Claims.{multiple}
use Rattle.claims.specs.Places.{one}
use Rattle.formulas.specs.Sets.{how_many}
use Rattle.translation.proofs.HowMany.{multiple_says}
use Rattle.claim_formula.specs.Saying.{Tells}
use Rattle.claim_formula.proofs.StandingLaws.{at_place, at_group, one_is}

how_many_one : (i : ℕ) → how_many (one i) ≡ 1
how_many_one zero = refl
how_many_one (suc i) = let e = how_many_one i in omega arith

-- one, by a number of two at least, leaves one
one_left : (t m r : ℕ) → 2 ≤ m → 1 ≡ t * m + r → r ≡ 1
one_left zero m r l e = omega arith
one_left (suc t) m r l e = grind arith

pub set_count_tells : (σ : ℕ → Bool) (m : Multiple) → σ m.set ≡ false →
    Tells σ (λ e. (t : ℕ) × (how_many (e.groups m.set) ≡ t * m.remainder.modulus + m.remainder.rest)) (multiple m)
set_count_tells σ m q w e s = let n = multiple_says m (sets w) (e.groups m.set) (at_group σ e (sets w) m.set q s) in (n.1, n.0)

-- of a place, whether the rest is one
place_count_says : (σ : ℕ → Bool) (m : Multiple) → σ m.set ≡ true → Tells σ (λ e. m.remainder.rest ≡ 1) (multiple m)
place_count_says σ m q w e s =
    let i = e.places m.set in
    let n = multiple_says m (sets w) (one i) (λ j. at_place σ e (sets w) m.set q s j ∙ sym (one_is i j)) in (
      λ r. n.1 (0, how_many_one i ∙ omega arith),
      λ h. (let (t, p) = n.0 h in one_left t m.remainder.modulus m.remainder.rest m.remainder.least (sym (how_many_one i) ∙ p)),
    )

pub place_count_tells : (σ : ℕ → Bool) (m : Multiple) → σ m.set ≡ true → m.remainder.rest ≡ 1 → Tells σ (λ e. Unit {0}) (multiple m)
place_count_tells σ m q r w e s = let n = place_count_says σ m q w e s in (λ t. n.0 r, λ h. tt)

pub place_count_fails : (σ : ℕ → Bool) (m : Multiple) → σ m.set ≡ true → (m.remainder.rest ≡ 1 → ⊥) → Tells σ (λ e. Unit {0} → ⊥) (multiple m)
place_count_fails σ m q r w e s = let n = place_count_says σ m q w e s in (λ f. absurd (f tt), λ h. absurd (r (n.1 h)))
