-- Sets of classes that are reached whatever set x is do not go by x, so their table stands for the
-- same one over the columns of the other sets.
use Rattle.std.proofs.Common.{◌≡◌, ℕ, ◌^◌, ◌<◌, Bool, true, false, cond, eqb, ◌&&◌, ◌||◌, sym, refl, ap, ap₂, ◌∙◌}
use Rattle.words.specs.Bits.{put_bit}
use Rattle.words.specs.Words.{bit}
use Rattle.words.proofs.BitsLaws.{bit_ext, bit_put, put_bit_below}
use Rattle.automata.specs.Search.{Explored}
use Rattle.automata.specs.Subsets.{any, step_set}
use Rattle.narrowing.specs.Columns.{extract, deposit}
use Rattle.narrowing.specs.Wide.{wide}
use Rattle.narrowing.proofs.ColumnsLaws.{deposit_below, with_bit}

-- a bit that is put twice
cond_twice : (b c d e : Bool) → cond b c (cond b d e) ≡ cond b c e
cond_twice true c d e = refl
cond_twice false c d e = refl

put_put : (x : ℕ) (b c : Bool) (a : ℕ) → put_bit x c (put_bit x b a) ≡ put_bit x c a
put_put x b c a = bit_ext (put_bit x c (put_bit x b a)) (put_bit x c a) (λ y. bit_put x c (put_bit x b a) y ∙ ap (cond (eqb y x) c) (bit_put x b a y) ∙ cond_twice (eqb y x) c b (bit y a) ∙ sym (bit_put x c a y))

-- the step does not look at the bit
step_put : (m : ℕ) (t : ℕ → ℕ → ℕ) (live : ℕ → Bool) (x : ℕ) (X : ℕ → Bool) (b : Bool) (a : ℕ) → step_set m t live x X (put_bit x b a) ≡ step_set m t live x X a
step_put m t live x X b a = ap₂ (λ c d q. live q && any (λ p. X p && (eqb (t p c) q || eqb (t p d) q)) m) (put_put x b true a) (put_put x b false a)

-- s are the sets of the part, r those but x
module _ (k x : ℕ) (h : x < k) (s r : ℕ → Bool) (others : (y : ℕ) → (y ≡ x → ⊥) → s y ≡ true → r y ≡ true) (m : ℕ) (t : ℕ → ℕ → ℕ) (live : ℕ → Bool) (z : ℕ → Bool) (o : ℕ) (at : ℕ → ℕ → Bool) (u : ℕ → ℕ → ℕ) (e : Explored k (step_set m t live x) z o at (wide k s u)) where
  -- so nor does the table
  row_put : (q a : ℕ) → q < o → a < 2 ^ k → (b : Bool) → wide k s u q (put_bit x b a) ≡ wide k s u q a
  row_put q a g l b =
      let p = put_bit_below k x b a h l in
      e.differ (wide k s u q (put_bit x b a)) (wide k s u q a) (e.connected.closed q (put_bit x b a) g p) (e.connected.closed q a g l)
      (e.steps q (put_bit x b a) g p ∙ step_put m t live x (at q) b a ∙ sym (e.steps q a g l))

  pub left_out : (q a : ℕ) → q < o → a < 2 ^ k → u q (extract k s (deposit k r (extract k r a))) ≡ wide k s u q a
  left_out q a g l =
      let d = deposit k r (extract k r a) in
      sym (row_put q d g (deposit_below k r (extract k r a)) false) ∙ ap (u q) (with_bit k x s r others false a) ∙ row_put q a g l false
