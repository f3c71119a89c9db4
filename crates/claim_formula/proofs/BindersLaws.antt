-- Of a name that is bound: what is said of some place or set, and of each, is what the claim that binds its number says, or the claim's opposite.
use Rattle.std.proofs.Common.{◌≡◌, ℕ, Bool, true, false, List, ◌↔◌, sym, refl, subst}
use Rattle.words.specs.Words.{Sets, Word, sets}
use Rattle.claims.specs.Claims.{C, not1, some, Holds, put}
use Rattle.claims.specs.Places.{one}
use Rattle.formulas.specs.Meaning.{Env, with_place, with_group}
use Rattle.translation.proofs.Families.{Family, family_put}
use Rattle.claim_formula.specs.Forced.{forces}
use Rattle.claim_formula.specs.Saying.{Stand, Tells, bound}
use Rattle.claim_formula.proofs.StandingLaws.{one_is, only_is, stand_place, stand_group, forced}

-- what tells a claim of every word tells it of every family that is some word's
tells_of : (σ : ℕ → Bool) (P : Env → Type 0) (c : C) → Tells σ P c → (v : Sets) (e : Env) → Family v → Stand σ e v → P e ↔ Holds c v
tells_of σ P c s v e f st = subst (λ z. P e ↔ Holds c z) (sym f.1) (s f.0 e (subst (Stand σ e) f.1 st))

word : (w : Word) → Family (sets w)
word w = (w, refl)

-- of a word with a set more
at_place : (σ : ℕ → Bool) (x : ℕ) (P : Env → Type 0) (c : C) → Tells (bound σ x true) P c → (w : Word) (e : Env) → Stand σ e (sets w) →
    (i : ℕ) → P (with_place e x i) ↔ Holds c (put (sets w) x (one i))
at_place σ x P c s w e st i =
    tells_of (bound σ x true) P c s (put (sets w) x (one i)) (with_place e x i) (family_put (sets w) x (one i) (word w))
    (stand_place σ e (sets w) x (one i) i (one_is i) st)

at_forced : (σ : ℕ → Bool) (x : ℕ) (P : Env → Type 0) (c d : C) → forces x d ≡ true → Tells (bound σ x true) P c → (w : Word) (e : Env) → Stand σ e (sets w) →
    (u : List Bool) → Holds d (put (sets w) x u) → (i : ℕ) × (P (with_place e x i) ↔ Holds c (put (sets w) x u))
at_forced σ x P c d f s w e st u h =
    let (i, o) = forced x d (put (sets w) x u) f h in (
      i,
      tells_of (bound σ x true) P c s (put (sets w) x u) (with_place e x i) (family_put (sets w) x u (word w))
          (stand_place σ e (sets w) x u i (only_is (sets w) x u i o) st),
    )

at_group : (σ : ℕ → Bool) (x : ℕ) (P : Env → Type 0) (c : C) → Tells (bound σ x false) P c → (w : Word) (e : Env) → Stand σ e (sets w) →
    (u : List Bool) → P (with_group e x u) ↔ Holds c (put (sets w) x u)
at_group σ x P c s w e st u =
    tells_of (bound σ x false) P c s (put (sets w) x u) (with_group e x u) (family_put (sets w) x u (word w)) (stand_group σ e (sets w) x u st)

pub some_place_tells : (σ : ℕ → Bool) (x : ℕ) (P : Env → Type 0) (c : C) → forces x c ≡ true → Tells (bound σ x true) P c →
    Tells σ (λ e. (i : ℕ) × P (with_place e x i)) (some x c)
some_place_tells σ x P c f s w e st = (
  λ m. (one m.0, (at_place σ x P c s w e st m.0).0 m.1),
  λ h. (let a = at_forced σ x P c c f s w e st h.0 h.1 in (a.0, a.1.1 h.1)),
)

pub no_place_tells : (σ : ℕ → Bool) (x : ℕ) (P : Env → Type 0) (c : C) → forces x c ≡ true → Tells (bound σ x true) P (not1 c) →
    Tells σ (λ e. (i : ℕ) → P (with_place e x i)) (not1 (some x c))
no_place_tells σ x P c f s w e st = (
  λ m h. (let a = at_forced σ x P (not1 c) c f s w e st h.0 h.1 in a.1.0 (m a.0) h.1),
  λ n i. (at_place σ x P (not1 c) s w e st i).1 (λ h. n (one i, h)),
)

pub some_set_tells : (σ : ℕ → Bool) (x : ℕ) (P : Env → Type 0) (c : C) → Tells (bound σ x false) P c → Tells σ (λ e. (u : List Bool) × P (with_group e x u)) (some x c)
some_set_tells σ x P c s w e st = (λ m. (m.0, (at_group σ x P c s w e st m.0).0 m.1), λ h. (h.0, (at_group σ x P c s w e st h.0).1 h.1))

pub no_set_tells : (σ : ℕ → Bool) (x : ℕ) (P : Env → Type 0) (c : C) → Tells (bound σ x false) P (not1 c) →
    Tells σ (λ e. (u : List Bool) → P (with_group e x u)) (not1 (some x c))
no_set_tells σ x P c s w e st = (λ m h. (at_group σ x P (not1 c) s w e st h.0).0 (m h.0) h.1, λ n u. (at_group σ x P (not1 c) s w e st u).1 (λ h. n (u, h)))
