-- Columns of some sets with one set more: how many they are, and where each stands.
use Rattle.std.proofs.Common.{◌≡◌, ℕ, zero, suc, ◌+◌, ◌-◌, ◌*◌, ◌/◌, ◌%◌, ◌^◌, ◌<◌, ◌≤◌, Bool, true, false, sym, refl, ap, ◌∙◌, inl, inr, List, get_or, pow-suc, arith}
use lib.Bits.{bit_or, or_zero_r}
use Rattle.std.proofs.lemmas.Nat.{one_shl}
use Rattle.std.proofs.Math.Pow.{pow_mono}
use native.Mathlib.Decide.{dec_lt}
use Rattle.words.specs.Bits.{put_bit}
use Rattle.words.proofs.BitsLaws.{put_or}
use Rattle.narrowing.specs.Columns.{tail, size, deposit}
use Rattle.narrowing.proofs.ColumnsLaws.{either, extract_zero, extract_put, extract_past, size_less}
use Rattle.selection.specs.Selections.{chosen, count, narrow, spread}
use Rattle.selection.specs.declared.selection.Selection.{Selection}

-- how many are chosen below x + 1
pub size_on : (x : ℕ) (s : ℕ → Bool) → s x ≡ true → size (suc x) s ≡ suc (size x s)
size_on zero s m = rw m refl
size_on (suc x) s m =
    let i = size_on x (tail s) m in
    elim (either (s 0)) [ inl e ↦ rw e (ap suc i) | inr e ↦ rw e i ]

pub size_off : (x : ℕ) (s : ℕ → Bool) → s x ≡ false → size (suc x) s ≡ size x s
size_off zero s m = rw m refl
size_off (suc x) s m =
    let i = size_off x (tail s) m in
    elim (either (s 0)) [ inl e ↦ rw e (ap suc i) | inr e ↦ rw e i ]

deposit_zero : (k : ℕ) (s : ℕ → Bool) → deposit k s 0 ≡ 0
deposit_zero zero s = refl
deposit_zero (suc k) s = let i = deposit_zero k (tail s) in elim (either (s 0)) [ inl e ↦ rw (e, i) refl | inr e ↦ rw (e, i) refl ]

-- a bit of a column of some sets is that of a set that is chosen
deposit_put : (k x : ℕ) (s : ℕ → Bool) → x < k → s x ≡ true → (j : ℕ) → deposit k s (put_bit (size x s) true j) ≡ put_bit x true (deposit k s j)
deposit_put zero x s h m j = let z : ⊥ = omega arith in absurd z
deposit_put (suc k) zero s h m j =
    let d = deposit k (tail s) (j / 2) in
    let p : (j / 2 * 2 + 1) / 2 ≡ j / 2 = omega arith in
    let q : (j / 2 * 2 + 1) % 2 ≡ 1 = omega arith in
    let r : (2 * d + j % 2) / 2 ≡ d = omega arith in
    rw (m, p, q, r) (omega arith)
deposit_put (suc k) (suc x) s h m j = elim (either (s 0)) [
  | inl e ↦
      let i = deposit_put k x (tail s) (omega arith) m (j / 2) in
      let d = deposit k (tail s) (j / 2) in
      let b = put_bit (size x (tail s)) true (j / 2) in
      let p : (b * 2 + j % 2) / 2 ≡ b = omega arith in
      let q : (b * 2 + j % 2) % 2 ≡ j % 2 = omega arith in
      let r : (2 * d + j % 2) / 2 ≡ d = omega arith in
      let t : (2 * d + j % 2) % 2 ≡ j % 2 = omega arith in
      rw (e, p, q, r, t, i) (omega arith)
  | inr e ↦
      let i = deposit_put k x (tail s) (omega arith) m j in
      let d = deposit k (tail s) j in
      let r : 2 * d / 2 ≡ d = omega arith in
      let t : 2 * d % 2 ≡ 0 = omega arith in
      rw (e, r, t, i) (omega arith)
]

-- a bit above all that a number has
put_above : (p j : ℕ) → j < 2 ^ p → put_bit p true j ≡ 2 ^ p + j
put_above zero j h = omega arith
put_above (suc p) j h = let i = put_above p (j / 2) (omega (arith, pow-suc 2 p)) in omega (arith, pow-suc 2 p)

-- what set x adds, as the operators on words have it
pub bit_on : (s : Selection) (x p : ℕ) → x < s.of → chosen s x ≡ true → p ≡ size x (chosen s) → p < 32 → (a : ℕ) → bit_or (narrow s a) ((1 * 2 ^ p) % 2 ^ 32) ≡ narrow s (put_bit x true a)
bit_on s x p h m e l a =
    ap (bit_or (narrow s a)) (one_shl p 32 l)
    ∙ sym (put_or p (narrow s a))
    ∙ ap (λ p. put_bit p true (narrow s a)) e
    ∙ sym (extract_put s.of x (chosen s) h m true a)

pub bit_off : (s : Selection) (x : ℕ) → chosen s x ≡ false → (a : ℕ) → bit_or (narrow s a) 0 ≡ narrow s (put_bit x true a)
bit_off s x m a = or_zero_r (narrow s a) ∙ sym (extract_past s.of x (chosen s) m true a)

-- the first n columns of the sets of `to` are mapped, which have no set from x on
pub record Filled (from to : Selection) (x n : ℕ) (map : List ℕ) : Type 0 where
  pub columns : n ≡ 2 ^ size x (chosen to)
  pub mapped : (j : ℕ) → j < n → get_or map j 0 ≡ narrow from (spread to j)

pub filled_none : (from to : Selection) (map : List ℕ) → get_or map 0 0 ≡ 0 → Filled from to 0 1 map
filled_none from to map e = record {
  columns = refl;
  mapped = λ j h. let z : j ≡ 0 = omega arith in rw (z, e, deposit_zero to.of (chosen to), extract_zero from.of (chosen from)) refl;
}

-- set x is not one of them
pub filled_past : {from to : Selection} {x n : ℕ} {map : List ℕ} → Filled from to x n map → chosen to x ≡ false → Filled from to (suc x) n map
filled_past {to = to} {x = x} f m = record { columns = f.columns ∙ ap (λ v. 2 ^ v) (sym (size_off x (chosen to) m)); mapped = f.mapped }

-- set x is one of them
module _ {from to : Selection} {x n : ℕ} {map : List ℕ} (f : Filled from to x n map) (h : x < to.of) (m : chosen to x ≡ true) where
  pub room : n + n ≤ 2 ^ count to
  room =
      let l = size_less to.of x (chosen to) h m in
      omega (arith, f.columns, pow-suc 2 (size x (chosen to)), pow_mono l)

  with_x : (j : ℕ) → j < n → spread to (n + j) ≡ put_bit x true (spread to j)
  with_x j g =
      let e : put_bit (size x (chosen to)) true j ≡ n + j = put_above (size x (chosen to)) j (omega (arith, f.columns)) ∙ ap (λ n. n + j) (sym f.columns) in
      ap (spread to) (sym e) ∙ deposit_put to.of x (chosen to) h m j

  pub filled_more : {map' : List ℕ} (b : ℕ) → ((a : ℕ) → bit_or (narrow from a) b ≡ narrow from (put_bit x true a)) → ((j : ℕ) → j < n → get_or map' j 0 ≡ get_or map j 0) → ((j : ℕ) → j < n → get_or map' (n + j) 0 ≡ bit_or (get_or map j 0) b) → Filled from to (suc x) (n * 2) map'
  filled_more {map'} b bits kept put = record {
    columns = let e = f.columns in rw (size_on x (chosen to) m) (omega (arith, pow-suc 2 (size x (chosen to))));
    mapped = λ j l. elim (dec_lt j n) [
      | yes g ↦ kept j g ∙ f.mapped j g
      | no g ↦
          let i = j - n in
          let e : n + i ≡ j = omega arith in
          let i_below : i < n = omega arith in
          ap (λ j. get_or map' j 0) (sym e)
          ∙ put i i_below
          ∙ ap (λ a. bit_or a b) (f.mapped i i_below)
          ∙ bits (spread to i)
          ∙ ap (narrow from) (sym (with_x i i_below))
          ∙ ap (λ j. narrow from (spread to j)) e
    ];
  }
