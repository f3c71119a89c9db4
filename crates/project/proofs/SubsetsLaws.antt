-- The steps of a subset construction: the set that follows a set is the one that the definition
-- says, a column with bit x leads where it leads without, and what each step of the search keeps.
use Rattle.std.proofs.Common.{◌≡◌, ℕ, zero, suc, ◌/◌, ◌<◌, ◌≤◌, Bool, true, false, ◌&&◌, ◌||◌, eqb, ◌⊎◌, ◌↔◌, Option, Some, Decides, sym, refl, ap, ◌∙◌, ap₂, inl, inr, arith}
use mathlib.Core.Path.{fun_ext}
use Rattle.std.proofs.lemmas.Bool.{or_cases, or_left, or_right}
use Rattle.words.specs.Words.{bit}
use Rattle.words.specs.Bits.{put_bit}
use Rattle.words.proofs.BitsLaws.{bit_put_here, bit_put_other, agree_put}
use Rattle.automata.specs.Subsets.{any, step_set, start_set, accepts_set}
use Rattle.automata.proofs.Decisions.{and_true, eqb_true, bool_iff}
use Rattle.automata.proofs.Subsets.{any_to, any_from}
use Rattle.bitsets.specs.Bitrows.{Below, Meets}
use Rattle.live.specs.Dead.{lives}
use Rattle.live.proofs.DeadLaws.{lives_below, lives_other, lives_dead}
use Rattle.project.specs.Successors.{Successors}

-- bit x of a column
pub put_same : (x a : ℕ) (b : Bool) → bit x a ≡ b → a ≡ put_bit x b a
put_same x a b e = agree_put x a a (λ y _. refl) ∙ ap (λ t. put_bit x t a) e

pub put_is : (x a c : ℕ) (b : Bool) → bit x c ≡ b → ((y : ℕ) → (y ≡ x → ⊥) → bit y c ≡ bit y a) → c ≡ put_bit x b a
put_is x a c b e others = agree_put x a c (λ y n. sym (others y n)) ∙ ap (λ t. put_bit x t a) e

put_put : (x a : ℕ) (b c : Bool) → put_bit x b (put_bit x c a) ≡ put_bit x b a
put_put x a b c = put_is x a (put_bit x b (put_bit x c a)) b (bit_put_here x b (put_bit x c a)) (λ y n. bit_put_other x b (put_bit x c a) y n ∙ bit_put_other x c a y n)

pub put_le : (x a : ℕ) → put_bit x false a ≤ a
put_le zero a = omega arith
put_le (suc x) a = let h = put_le x (a / 2) in omega arith

-- the step by a column without bit x, and with it
module _ (m : ℕ) (δ : ℕ → ℕ → ℕ) (live : ℕ → Bool) (x : ℕ) where
  pub step_made : (X Y : ℕ → Bool) (a b : ℕ) → Below m X → a ≡ put_bit x false a → b ≡ put_bit x true a → Successors δ live a b X Y → Y ≡ step_set m δ live x X a
  step_made X Y a b below ea eb s = fun_ext (λ q. bool_iff (Y q) (step_set m δ live x X a q) (to q, from q))
    where
      leads : ℕ → ℕ → Bool
      leads q p = X p && (eqb (δ p (put_bit x true a)) q || eqb (δ p (put_bit x false a)) q)

      either : (q p : ℕ) → ((δ p a ≡ q) ⊎ (δ p b ≡ q)) → (eqb (δ p (put_bit x true a)) q || eqb (δ p (put_bit x false a)) q) ≡ true
      either q p (inl e) = or_right (eqb (δ p (put_bit x true a)) q) (eqb (δ p (put_bit x false a)) q) ((eqb_true (δ p (put_bit x false a)) q).1 (ap (δ p) (sym ea) ∙ e))
      either q p (inr e) = or_left (eqb (δ p (put_bit x true a)) q) (eqb (δ p (put_bit x false a)) q) ((eqb_true (δ p (put_bit x true a)) q).1 (ap (δ p) (sym eb) ∙ e))

      to : (q : ℕ) → Y q ≡ true → step_set m δ live x X a q ≡ true
      to q t =
          let (p, i, (l, o)) = (s q).0 t in
          (and_true (live q) (any (leads q) m)).1 (l, any_from (leads q) m p (below p i) ((and_true (X p) (eqb (δ p (put_bit x true a)) q || eqb (δ p (put_bit x false a)) q)).1 (i, either q p o)))

      from : (q : ℕ) → step_set m δ live x X a q ≡ true → Y q ≡ true
      from q t =
          let (l, r) = (and_true (live q) (any (leads q) m)).0 t in
          let (p, _, f) = any_to (leads q) m r in
          let (i, o) = (and_true (X p) (eqb (δ p (put_bit x true a)) q || eqb (δ p (put_bit x false a)) q)).0 f in
          let o' : (δ p a ≡ q) ⊎ (δ p b ≡ q) = elim (or_cases (eqb (δ p (put_bit x true a)) q) (eqb (δ p (put_bit x false a)) q) o) [
            | inl e ↦ inr (ap (δ p) eb ∙ (eqb_true (δ p (put_bit x true a)) q).0 e)
            | inr e ↦ inl (ap (δ p) ea ∙ (eqb_true (δ p (put_bit x false a)) q).0 e)
          ] in
          (s q).1 (p, i, (l, o'))

  pub step_copied : (X : ℕ → Bool) (a : ℕ) → step_set m δ live x X (put_bit x false a) ≡ step_set m δ live x X a
  step_copied X a = ap₂ (λ u v. λ q. live q && any (λ p. X p && (eqb (δ p u) q || eqb (δ p v) q)) m) (put_put x a true false) (put_put x a false false)

-- the sets that are reached have live classes only, which are below m
module _ (m : ℕ) (dead : Option ℕ) (δ : ℕ → ℕ → ℕ) (x : ℕ) where
  pub start_below : Below m (start_set (lives m dead))
  start_below q e = lives_below m dead q ((and_true (lives m dead q) (eqb q 0)).0 e).0

  pub step_below : (X : ℕ → Bool) (a : ℕ) → Below m (step_set m δ (lives m dead) x X a)
  step_below X a q e = lives_below m dead q ((and_true (lives m dead q) (any (λ p. X p && (eqb (δ p (put_bit x true a)) q || eqb (δ p (put_bit x false a)) q)) m)).0 e).0

-- whether a set accepts
pub meets_says : (m : ℕ) (f X : ℕ → Bool) (r : Bool) → Below m X → Decides r (Meets X f) → r ≡ accepts_set m f X
meets_says m f X r below d = bool_iff r (accepts_set m f X) (
  λ t. (let (q, i, e) = d.0 t in any_from (λ q. X q && f q) m q (below q i) ((and_true (X q) (f q)).1 (i, e))),
  λ t. (let (q, _, e) = any_to (λ q. X q && f q) m t in let (i, g) = (and_true (X q) (f q)).0 e in d.1 (q, i, g)),
)

-- the start
pub start_made : (m : ℕ) (dead : Option ℕ) (Y : ℕ → Bool) → 0 < m → ((q : ℕ) → (Y q ≡ true) ↔ ((q ≡ 0) × (dead ≡ Some q → ⊥))) → Y ≡ start_set (lives m dead)
start_made m dead Y h s = fun_ext (λ q. bool_iff (Y q) (start_set (lives m dead) q) (to q, from q))
  where
    to : (q : ℕ) → Y q ≡ true → start_set (lives m dead) q ≡ true
    to q t = let (e, n) = (s q).0 t in (and_true (lives m dead q) (eqb q 0)).1 (lives_other m dead q (omega arith) n, (eqb_true q 0).1 e)

    from : (q : ℕ) → start_set (lives m dead) q ≡ true → Y q ≡ true
    from q t = let (l, e) = (and_true (lives m dead q) (eqb q 0)).0 t in (s q).1 ((eqb_true q 0).0 e, λ d. lives_dead m dead q d l)
