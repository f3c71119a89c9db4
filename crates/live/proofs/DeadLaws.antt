-- In an exact table all classes are live but at most one.
use Rattle.std.proofs.Common.{◌≡◌, ℕ, ◌<◌, Bool, true, ◌↔◌, [], Option, None, Some, ap, refl, subst, sym}
use Rattle.std.proofs.lemmas.Bool.{ltb-true, lt-ltb, eq-eqb, ne_eqb, and_parts, and_from, and_right, not_from_true, not_from_false, both_ways}
use Rattle.std.proofs.lemmas.Option.{same_Some}
use Rattle.automata.specs.Subsets.{Live}
use Rattle.automata.specs.Tables.{Alike, Collapsed, Connected}
use Rattle.words.specs.Runs.{run}
use Rattle.automata.proofs.Decisions.{bool_iff}
use Rattle.automata.proofs.Decisions.{stable}
use Rattle.automata.proofs.Live.{live?}
use Rattle.live.specs.Dead.{lives}

-- lives holds of classes only
pub lives_below : (m : ℕ) (dead : Option ℕ) (q : ℕ) → lives m dead q ≡ true → q < m
lives_below m None q e = ltb-true q m e
lives_below m (Some d) q e = ltb-true q m (and_parts _ _ e).0

-- of all but the dead one
pub lives_other : (m : ℕ) (dead : Option ℕ) (q : ℕ) → q < m → (dead ≡ Some q → ⊥) → lives m dead q ≡ true
lives_other m None q h n = lt-ltb q m h
lives_other m (Some d) q h n = and_from _ _ (lt-ltb q m h) (not_from_false _ (ne_eqb q d (λ e. n (ap Some (sym e)))))

pub lives_dead : (m : ℕ) (dead : Option ℕ) (q : ℕ) → dead ≡ Some q → lives m dead q ≡ true → ⊥
lives_dead m dead q e l = both_ways _ (and_right _ _ (not_from_true _ (eq-eqb q q refl))) (subst (λ d. lives m d q ≡ true) e l)

-- a class that accepts is live
pub live_accepting : (k : ℕ) (δ : ℕ → ℕ → ℕ) (f : ℕ → Bool) (q : ℕ) → f q ≡ true → Live k δ f q
live_accepting k δ f q e = ([], tt, e)

-- classes that are not live are alike
pub dead_alike : (k : ℕ) (δ : ℕ → ℕ → ℕ) (f : ℕ → Bool) (p q : ℕ) → (Live k δ f p → ⊥) → (Live k δ f q → ⊥) → Alike k δ f p q
dead_alike k δ f p q dp dq x hx = bool_iff (f (run δ p x)) (f (run δ q x)) (λ e. absurd (dp (x, hx, e)), λ e. absurd (dq (x, hx, e)))

module _ (k m : ℕ) (δ : ℕ → ℕ → ℕ) (f : ℕ → Bool) (g : Connected k m δ) (n : Collapsed k m δ f) where
  -- where one is dead, all others are live
  pub lives_but : (dead : ℕ) → dead < m → (Live k δ f dead → ⊥) → (q : ℕ) → q < m → (lives m (Some dead) q ≡ true) ↔ Live k δ f q
  lives_but dead hd d q h = (
    λ l. stable (live? k m δ f g q h) (λ dq. lives_dead m (Some dead) q (ap Some (sym (n q dead h hd (dead_alike k δ f q dead dq d)))) l),
    λ l. lives_other m (Some dead) q h (λ e. d (subst (Live k δ f) (sym (same_Some dead q e)) l)),
  )
