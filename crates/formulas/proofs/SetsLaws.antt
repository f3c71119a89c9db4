-- The lowest and the highest place of a set, and sets made of two.
use Rattle.std.proofs.Common.{◌≡◌, ℕ, zero, suc, ◌-◌, ◌<◌, Bool, true, false, cond, not, ◌&&◌, ◌||◌, ◌⊎◌, ◌↔◌, List, [], ◌∷◌, sym, refl, ◌∙◌, subst, inl, inr, arith}
use mathlib.Core.Bool.{false≢true}
use native.Mathlib.Decide.{ℕ_discrete, dec_lt}
use Rattle.claims.specs.Claims.{has}
use Rattle.claims.specs.Places.{one}
use Rattle.claims.proofs.PlacesLaws.{one_has, has_one}
use Rattle.formulas.specs.Sets.{mix, any, lowest, highest}

pub mix_has : (f : Bool → Bool → Bool) (u w : List Bool) (i : ℕ) → f false false ≡ false → has (mix f u w) i ≡ f (has u i) (has w i)
mix_has f [] [] i z = sym z
mix_has f [] (b ∷ w) zero z = refl
mix_has f [] (b ∷ w) (suc i) z = mix_has f [] w i z
mix_has f (a ∷ u) [] zero z = refl
mix_has f (a ∷ u) [] (suc i) z = mix_has f u [] i z
mix_has f (a ∷ u) (b ∷ w) zero z = refl
mix_has f (a ∷ u) (b ∷ w) (suc i) z = mix_has f u w i z

pub or_true : (a b : Bool) → ((a ≡ true) ⊎ (b ≡ true)) ↔ ((a || b) ≡ true)
or_true true b = (λ h. refl, λ h. inl refl)
or_true false b = (λ h. elim h [ inl e ↦ absurd (false≢true e) | inr e ↦ e ], λ h. inr h)

pub and_true : (a b : Bool) → ((a ≡ true) × (b ≡ true)) ↔ ((a && b) ≡ true)
and_true true b = (λ h. h.1, λ h. (refl, h))
and_true false b = (λ h. h.0, λ h. absurd (false≢true h))

pub but_true : (a b : Bool) → ((a ≡ true) × (b ≡ true → ⊥)) ↔ ((a && not b) ≡ true)
but_true true true = (λ h. absurd (h.1 refl), λ h. absurd (false≢true h))
but_true true false = (λ h. refl, λ h. (refl, λ e. false≢true e))
but_true false b = (λ h. absurd (false≢true h.0), λ h. absurd (false≢true h))

pub true_stable : (b : Bool) → ((b ≡ true → ⊥) → ⊥) → b ≡ true
true_stable true n = refl
true_stable false n = absurd (n (λ e. false≢true e))

pub one_says : (i j : ℕ) → (i ≡ j) ↔ (has (one i) j ≡ true)
one_says i j = (λ e. subst (λ z. has (one i) z ≡ true) e (has_one i), λ h. sym (one_has i j h))

pub prev_says : (k i : ℕ) → ((k ≡ suc i) ⊎ ((k ≡ i) × (i ≡ 0))) ↔ (k - 1 ≡ i)
prev_says zero i = (λ s. omega arith, λ h. inr (omega arith, omega arith))
prev_says (suc k) i = (λ s. omega arith, λ h. inl (omega arith))

-- the outermost place of a set, or 0 if it is empty
abbrev pub Extreme : (ℕ → ℕ → Type 0) → List Bool → ℕ → Type 0
Extreme R u i = ((has u i ≡ true) × (((j : ℕ) × (R j i × (has u j ≡ true))) → ⊥)) ⊎ ((i ≡ 0) × (((j : ℕ) × (has u j ≡ true)) → ⊥))

extreme_one : (R : ℕ → ℕ → Type 0) (u : List Bool) (i k : ℕ) → ((i ≡ k → ⊥) → R i k ⊎ R k i) → Extreme R u i → Extreme R u k → i ≡ k
extreme_one R u i k t (inl p) (inl q) = elim (ℕ_discrete i k) [ yes e ↦ e | no n ↦ elim (t n) [ inl r ↦ absurd (q.1 (i, (r, p.0))) | inr r ↦ absurd (p.1 (k, (r, q.0))) ] ]
extreme_one R u i k t (inl p) (inr q) = absurd (q.1 (i, p.0))
extreme_one R u i k t (inr p) (inl q) = absurd (p.1 (k, q.0))
extreme_one R u i k t (inr p) (inr q) = p.0 ∙ sym q.0

any_has : (u : List Bool) → any u ≡ true → (j : ℕ) × (has u j ≡ true)
any_has [] h = absurd (false≢true h)
any_has (true ∷ u) h = (0, refl)
any_has (false ∷ u) h = let (j, g) = any_has u h in (suc j, g)

has_any : (u : List Bool) (j : ℕ) → has u j ≡ true → any u ≡ true
has_any [] j h = absurd (false≢true h)
has_any (true ∷ u) j h = refl
has_any (false ∷ u) zero h = absurd (false≢true h)
has_any (false ∷ u) (suc j) h = has_any u j h

any_none : (u : List Bool) → any u ≡ false → (j : ℕ) → has u j ≡ true → ⊥
any_none u e j h = false≢true (sym e ∙ has_any u j h)

abbrev pub Below : ℕ → ℕ → Type 0
Below j i = j < i

abbrev pub Above : ℕ → ℕ → Type 0
Above j i = i < j

low : (u : List Bool) → Extreme Below u (lowest u)
low [] = inr (refl, λ p. false≢true p.1)
low (true ∷ u) = inl (refl, λ p. (let h = p.1.0 in omega arith))
low (false ∷ u) = at (low u) (any u) refl
  where
    before : (i j : ℕ) → j < suc i → has (false ∷ u) j ≡ true → (((j : ℕ) × (Below j i × (has u j ≡ true))) → ⊥) → ⊥
    before i zero l h m = false≢true h
    before i (suc j) l h m = m (j, (omega arith, h))

    at : Extreme Below u (lowest u) → (b : Bool) → any u ≡ b → Extreme Below (false ∷ u) (cond b (suc (lowest u)) 0)
    at (inl p) true e = inl (p.0, λ q. before (lowest u) q.0 q.1.0 q.1.1 p.1)
    at (inr p) true e = absurd (p.1 (any_has u e))
    at r false e = inr (refl, λ q. none q.0 q.1)
      where
        none : (j : ℕ) → has (false ∷ u) j ≡ true → ⊥
        none zero h = false≢true h
        none (suc j) h = any_none u e j h

high : (u : List Bool) → Extreme Above u (highest u)
high [] = inr (refl, λ p. false≢true p.1)
high (b ∷ u) = at (high u) (any u) refl
  where
    behind : (i j : ℕ) → suc i < j → has (b ∷ u) j ≡ true → (((j : ℕ) × (Above j i × (has u j ≡ true))) → ⊥) → ⊥
    behind i zero l h m = omega arith
    behind i (suc j) l h m = m (j, (omega arith, h))

    none : any u ≡ false → (j : ℕ) → 0 < j → has (b ∷ u) j ≡ true → ⊥
    none e zero l h = omega arith
    none e (suc j) l h = any_none u e j h

    here : any u ≡ false → (c : Bool) → b ≡ c → Extreme Above (b ∷ u) 0
    here e true q = inl (q, λ p. none e p.0 p.1.0 p.1.1)
    here e false q = inr (refl, λ p. all p.0 p.1)
      where
        all : (j : ℕ) → has (b ∷ u) j ≡ true → ⊥
        all zero h = false≢true (sym q ∙ h)
        all (suc j) h = any_none u e j h

    at : Extreme Above u (highest u) → (c : Bool) → any u ≡ c → Extreme Above (b ∷ u) (cond c (suc (highest u)) 0)
    at (inl p) true e = inl (p.0, λ q. behind (highest u) q.0 q.1.0 q.1.1 p.1)
    at (inr p) true e = absurd (p.1 (any_has u e))
    at r false e = here e b refl

pub lowest_says : (u : List Bool) (i : ℕ) → Extreme Below u i ↔ (lowest u ≡ i)
lowest_says u i = (λ h. extreme_one Below u (lowest u) i (λ n. apart (lowest u) i n) (low u) h, λ e. subst (Extreme Below u) e (low u))
  where
    apart : (a b : ℕ) → (a ≡ b → ⊥) → Below a b ⊎ Below b a
    apart a b n = elim (dec_lt a b) [ yes l ↦ inl l | no l ↦ inr (omega arith) ]

pub highest_says : (u : List Bool) (i : ℕ) → Extreme Above u i ↔ (highest u ≡ i)
highest_says u i = (λ h. extreme_one Above u (highest u) i (λ n. apart (highest u) i n) (high u) h, λ e. subst (Extreme Above u) e (high u))
  where
    apart : (a b : ℕ) → (a ≡ b → ⊥) → Above a b ⊎ Above b a
    apart a b n = elim (dec_lt a b) [ yes l ↦ inr l | no l ↦ inl (omega arith) ]
