-- The terms that stand for one step round a ring, and what so many steps from a place is.
use Rattle.std.proofs.Common.{◌≡◌, ℕ, zero, suc, ◌-◌, Bool, true, false, cond, not, ◌&&◌, ◌||◌, ◌⊎◌, Option, List, sym, refl, ap, ◌∙◌, inl, inr, arith}
use mathlib.Core.Bool.{false≢true}
use native.Mathlib.Decide.{dec_lt}
use Rattle.claims.specs.Claims.{has}
use Rattle.claims.specs.Places.{one}
use Rattle.formulas.specs.Sets.{mix, lowest, highest}
use Rattle.formulas.proofs.SetsLaws.{mix_has, or_true, and_true, but_true, one_says, lowest_says, highest_says}
use Rattle.trees.specs.Tree.{Expr}
use Rattle.resolve.specs.Spaces.{around, next, previous, forward, back}
use Rattle.resolve.specs.Says.{Context, place, place_of, value, number_of}

-- the place behind i, if the ring has it
abbrev Ahead : List Bool → ℕ → List Bool
Ahead u i = mix (λ x y. x && y) (one (suc i)) u

ahead_has : (u : List Bool) (i j : ℕ) → has (Ahead u i) j ≡ true → (suc i ≡ j) × (has u j ≡ true)
ahead_has u i j h =
    let both = (and_true (has (one (suc i)) j) (has u j)).1 (sym (mix_has (λ x y. x && y) (one (suc i)) u j refl) ∙ h) in
    ((one_says (suc i) j).1 both.0, both.1)

-- one step further
pub next_is : (u : List Bool) (i : ℕ) → highest (Ahead u i) ≡ next u i
next_is u i = go (has u (suc i)) refl
  where
    go : (b : Bool) → has u (suc i) ≡ b → highest (Ahead u i) ≡ cond b (suc i) 0
    go true e =
        let here = mix_has (λ x y. x && y) (one (suc i)) u (suc i) refl ∙ (and_true (has (one (suc i)) (suc i)) (has u (suc i))).0 ((one_says (suc i) (suc i)).0 refl, e) in
        (highest_says (Ahead u i) (suc i)).0 (inl (here, λ q. (let same = (ahead_has u i q.0 q.1.1).0 in let above = q.1.0 in omega arith)))
    go false e = (highest_says (Ahead u i) 0).0 (inr (refl, λ q. (let both = ahead_has u i q.0 q.1 in false≢true (sym e ∙ ap (has u) both.0 ∙ both.1))))

-- the place i, unless that is place 0, and the number behind the ring's last place
abbrev Behind : List Bool → ℕ → List Bool
Behind u i = mix (λ x y. x || y) (mix (λ x y. x && not y) (one i) (one 0)) (one (suc (highest u)))

module _ (u : List Bool) (i : ℕ) where
  behind_is : (j : ℕ) → has (Behind u i) j ≡ has (mix (λ x y. x && not y) (one i) (one 0)) j || has (one (suc (highest u))) j
  behind_is j = mix_has (λ x y. x || y) (mix (λ x y. x && not y) (one i) (one 0)) (one (suc (highest u))) j refl

  but_first : (j : ℕ) → has (mix (λ x y. x && not y) (one i) (one 0)) j ≡ has (one i) j && not (has (one 0) j)
  but_first j = mix_has (λ x y. x && not y) (one i) (one 0) j refl

  behind_has : (j : ℕ) → has (Behind u i) j ≡ true → ((i ≡ j) × (0 ≡ j → ⊥)) ⊎ (suc (highest u) ≡ j)
  behind_has j h = elim ((or_true (has (mix (λ x y. x && not y) (one i) (one 0)) j) (has (one (suc (highest u))) j)).1 (sym (behind_is j) ∙ h)) [
    | inl p ↦ (let both = (but_true (has (one i) j) (has (one 0) j)).1 (sym (but_first j) ∙ p) in inl ((one_says i j).1 both.0, λ e. both.1 ((one_says 0 j).0 e)))
    | inr p ↦ inr ((one_says (suc (highest u)) j).1 p)
  ]

  has_last : has (Behind u i) (suc (highest u)) ≡ true
  has_last = behind_is (suc (highest u)) ∙ (or_true _ _).0 (inr ((one_says (suc (highest u)) (suc (highest u))).0 refl))

  has_place : (0 ≡ i → ⊥) → has (Behind u i) i ≡ true
  has_place n = behind_is i ∙ (or_true _ _).0 (inl (but_first i ∙ (but_true _ _).0 ((one_says i i).0 refl, λ h. n ((one_says 0 i).1 h))))

-- one step back
pub previous_is : (u : List Bool) (i : ℕ) → lowest (Behind u i) - 1 ≡ previous u i
previous_is u zero =
    let last : lowest (Behind u 0) ≡ suc (highest u) = (lowest_says (Behind u 0) (suc (highest u))).0 (inl (
      has_last u 0,
      λ q. elim (behind_has u 0 q.0 q.1.1) [
        | inl p ↦ p.1 p.0
        | inr e ↦ (let below = q.1.0 in omega arith)
      ],
    )) in
    omega (arith, last)
previous_is u (suc i) = elim (dec_lt i (suc (highest u))) [
  | yes l ↦ (
      let here : lowest (Behind u (suc i)) ≡ suc i = (lowest_says (Behind u (suc i)) (suc i)).0 (inl (
        has_place u (suc i) (λ e. (let z : ⊥ = cc in z)),
        λ q. elim (behind_has u (suc i) q.0 q.1.1) [
          | inl p ↦ (let same = p.0 in let below = q.1.0 in omega arith)
          | inr e ↦ (let below = q.1.0 in omega arith)
        ],
      )) in
      omega (arith, here)
      )
  | no l ↦ (
      let last : lowest (Behind u (suc i)) ≡ suc (highest u) = (lowest_says (Behind u (suc i)) (suc (highest u))).0 (inl (
        has_last u (suc i),
        λ q. elim (behind_has u (suc i) q.0 q.1.1) [
          | inl p ↦ (let same = p.0 in let below = q.1.0 in omega arith)
          | inr e ↦ (let below = q.1.0 in omega arith)
        ],
      )) in
      omega (arith, last)
      )
]

module _ (s : Context) (a b : Expr) (o : Option (List Bool)) (n p m : ℕ) where
  pub further_means : value a.kind s ≡ place p → n ≡ number_of b.kind → around s.space ≡ o → m ≡ forward o n p →
      place (forward (around s.space) (number_of b.kind) (place_of (value a.kind s))) ≡ place m
  further_means at by on is = rw (at, ← by, on) (ap place (sym is))

  pub back_means : value a.kind s ≡ place p → n ≡ number_of b.kind → around s.space ≡ o → m ≡ back o n p →
      place (back (around s.space) (number_of b.kind) (place_of (value a.kind s))) ≡ place m
  back_means at by on is = rw (at, ← by, on) (ap place (sym is))
