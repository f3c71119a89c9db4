-- What and, and some, make of tables over narrow columns: pairs and sets of classes go by these
-- columns alone, and a set that is left out is one of the narrow table's own sets.
use Rattle.std.proofs.Common.{◌≡◌, ℕ, ◌^◌, ◌<◌, Bool, true, false, eqb, ◌&&◌, ◌||◌, ◌↔◌, [], ◌∷◌, sym, refl, ap, ap₂, ◌∙◌, arith}
use Rattle.words.specs.Bits.{put_bit}
use Rattle.words.specs.Runs.{run}
use Rattle.words.specs.Words.{Word, Columns, bit}
use Rattle.words.proofs.BitsLaws.{agree_put, bit_put_other}
use Rattle.claims.specs.Sizes.{But}
use Rattle.automata.specs.Product.{pair, step_pair}
use Rattle.automata.specs.Subsets.{Completes, any, step_set}
use Rattle.narrowing.specs.Columns.{each, size, extract, deposit}
use Rattle.narrowing.specs.Wide.{Sees, wide}
use Rattle.narrowing.proofs.ColumnsLaws.{extract_put, extract_zero, narrower}
use Rattle.narrowing.proofs.WideLaws.{wide_run}

-- pairs of classes of two tables over the same columns
pub pair_sees : (k : ℕ) (s : ℕ → Bool) (t u : ℕ → ℕ → ℕ) → Sees k (extract k s) (step_pair (wide k s t) (wide k s u)) (step_pair t u)
pair_sees k s t u (pair p q) a h = refl

-- a table over more sets that leads where the table does stands for the same table
pub more_sets : (k : ℕ) (s r : ℕ → Bool) → ((x : ℕ) → s x ≡ true → r x ≡ true) → (t u : ℕ → ℕ → ℕ) (q : ℕ) → ((j : ℕ) → j < 2 ^ size k r → u q j ≡ t q (extract k s (deposit k r j))) → (a : ℕ) → extract k r a < 2 ^ size k r → wide k r u q a ≡ wide k s t q a
more_sets k s r i t u q e a h = e (extract k r a) h ∙ ap (t q) (narrower k s r i a)

-- set x, which is one of the sets s, is number `size x s` of these
module _ (k x : ℕ) (s : ℕ → Bool) (h : x < k) (c : s x ≡ true) where
  abbrev pub place : ℕ
  place = size x s

  -- sets of classes, whatever the bit of x
  pub set_sees : (m : ℕ) (t : ℕ → ℕ → ℕ) (live : ℕ → Bool) → Sees k (extract k s) (step_set m (wide k s t) live x) (step_set m t live place)
  set_sees m t live X a l = ap₂ (λ b d q. live q && any (λ p. X p && (eqb (t p b) q || eqb (t p d) q)) m) (extract_put k x s h c true a) (extract_put k x s h c false a)

  -- the narrow column that has at most x
  lone : (b : Bool) → extract k s (put_bit x b 0) ≡ put_bit place b 0
  lone b = extract_put k x s h c b 0 ∙ ap (put_bit place b) (extract_zero k s)

  -- the full word of columns that have at most x
  abbrev full_lone : Word → Word
  full_lone [] = []
  full_lone (a ∷ w) = put_bit x (bit place a) 0 ∷ full_lone w

  but_full : (z w : Word) → Columns 0 z → But place z w → But x z (full_lone w) × (each (extract k s) (full_lone w) ≡ w)
  but_full [] [] g b = (tt, refl)
  but_full [] (a ∷ w) g b = absurd b
  but_full (d ∷ z) [] g b = absurd b
  but_full (d ∷ z) (a ∷ w) g b =
      let d0 : d ≡ 0 = omega (arith, g.0) in
      let (i, e) = but_full z w g.1 b.1 in
      let n : a ≡ put_bit place (bit place a) 0 = agree_put place d a b.0 ∙ ap (put_bit place (bit place a)) d0 in
      ((λ y o. ap (bit y) d0 ∙ sym (bit_put_other x (bit place a) 0 y o), i), ap₂ (λ v u. v ∷ u) (lone (bit place a) ∙ sym n) e)

  but_narrow : (z w : Word) → Columns 0 z → But x z w → But place z (each (extract k s) w)
  but_narrow [] [] g b = tt
  but_narrow [] (a ∷ w) g b = absurd b
  but_narrow (d ∷ z) [] g b = absurd b
  but_narrow (d ∷ z) (a ∷ w) g b =
      let d0 : d ≡ 0 = omega (arith, g.0) in
      let n : a ≡ put_bit x (bit x a) 0 = agree_put x d a b.0 ∙ ap (put_bit x (bit x a)) d0 in
      let e : extract k s a ≡ put_bit place (bit x a) 0 = ap (extract k s) n ∙ lone (bit x a) in
      ((λ y o. ap (bit y) d0 ∙ sym (bit_put_other place (bit x a) 0 y o) ∙ sym (ap (bit y) e)), but_narrow z w g.1 b.1)

  -- what is completed beyond the end
  pub completes_wide : (t : ℕ → ℕ → ℕ) (f : ℕ → Bool) (q : ℕ) → Completes place t f q ↔ Completes x (wide k s t) f q
  completes_wide t f q = (
    λ p. (let (z, g, r) = p in let (w, b, e) = r in let (i, n) = but_full z w g b in (z, g, (full_lone w, i, ap f (wide_run k s t q (full_lone w) ∙ ap (run t q) n) ∙ e))),
    λ p. (let (z, g, r) = p in let (w, b, e) = r in (z, g, (each (extract k s) w, but_narrow z w g b, sym (ap f (wide_run k s t q w)) ∙ e))),
  )
