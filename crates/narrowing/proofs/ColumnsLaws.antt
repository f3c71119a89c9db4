-- Narrow columns: below 2 ^ v, each that of a full column, in order; and their bits.
use Rattle.std.proofs.Common.{◌≡◌, ℕ, zero, suc, ◌+◌, ◌*◌, ◌/◌, ◌%◌, ◌^◌, ◌<◌, ◌≤◌, Bool, true, false, cond, eqb, ◌⊎◌, sym, refl, ◌∙◌, ap₂, subst, inl, inr, pow-suc, arith}
use mathlib.Core.Bool.{false≢true}
use native.Mathlib.Decide.{dec_lt, ℕ_discrete}
use Rattle.std.proofs.lemmas.Bool.Decides.{eqb_tells}
use Rattle.words.specs.Bits.{put_bit}
use Rattle.words.specs.Words.{bit}
use Rattle.words.proofs.BitsLaws.{bit_put_here, bit_put_other}
use Rattle.narrowing.specs.Columns.{tail, size, extract, deposit}
use Rattle.narrowing.specs.Wide.{Narrow}

pub either : (b : Bool) → (b ≡ true) ⊎ (b ≡ false)
either true = inl refl
either false = inr refl

pub extract_below : (k : ℕ) (s : ℕ → Bool) (a : ℕ) → extract k s a < 2 ^ size k s
extract_below zero s a = omega arith
extract_below (suc k) s a =
    let i = extract_below k (tail s) (a / 2) in
    elim (either (s 0)) [ inl e ↦ rw e (omega (arith, pow-suc 2 (size k (tail s)))) | inr e ↦ rw e i ]

pub deposit_below : (k : ℕ) (s : ℕ → Bool) (j : ℕ) → deposit k s j < 2 ^ k
deposit_below zero s j = omega arith
deposit_below (suc k) s j =
    let i = deposit_below k (tail s) (j / 2) in
    let l = deposit_below k (tail s) j in
    elim (either (s 0)) [ inl e ↦ rw e (omega (arith, pow-suc 2 k)) | inr e ↦ rw e (omega (arith, pow-suc 2 k)) ]

-- a narrow column is that of its least full one
pub extract_deposit : (k : ℕ) (s : ℕ → Bool) (j : ℕ) → j < 2 ^ size k s → extract k s (deposit k s j) ≡ j
extract_deposit zero s j h = omega arith
extract_deposit (suc k) s j h = elim (either (s 0)) [
  | inl e ↦
      let h' : j < 2 ^ suc (size k (tail s)) = rw e at h in
      let i = extract_deposit k (tail s) (j / 2) (omega (arith, pow-suc 2 (size k (tail s)))) in
      let d = deposit k (tail s) (j / 2) in
      let p : (2 * d + j % 2) / 2 ≡ d = omega arith in
      let q : (2 * d + j % 2) % 2 ≡ j % 2 = omega arith in
      rw (e, p, q, i) (omega arith)
  | inr e ↦
      let h' : j < 2 ^ size k (tail s) = rw e at h in
      let i = extract_deposit k (tail s) j h' in
      let d = deposit k (tail s) j in
      let p : 2 * d / 2 ≡ d = omega arith in
      rw (e, p) i
]

-- narrow columns stand in the order of their least full ones
pub deposit_rises : (k : ℕ) (s : ℕ → Bool) (i j : ℕ) → i < j → j < 2 ^ size k s → deposit k s i < deposit k s j
deposit_rises zero s i j l h = let z : ⊥ = omega arith in absurd z
deposit_rises (suc k) s i j l h = elim (either (s 0)) [
  | inl e ↦
      let h' : j < 2 ^ suc (size k (tail s)) = rw e at h in
      rw e (elim (dec_lt (i / 2) (j / 2)) [
        | yes g ↦ (let r = deposit_rises k (tail s) (i / 2) (j / 2) g (omega (arith, pow-suc 2 (size k (tail s)))) in omega arith)
        | no g ↦ (let r : i / 2 ≡ j / 2 = omega arith in rw r (omega arith))
      ])
  | inr e ↦
      let h' : j < 2 ^ size k (tail s) = rw e at h in
      let r = deposit_rises k (tail s) i j l h' in
      rw e (omega arith)
]

-- the least full column with the narrow column of a is not above a
pub least_full : (k : ℕ) (s : ℕ → Bool) (a : ℕ) → deposit k s (extract k s a) ≤ a
least_full zero s a = omega arith
least_full (suc k) s a =
    let i = least_full k (tail s) (a / 2) in
    elim (either (s 0)) [
      | inl e ↦
          let x = extract k (tail s) (a / 2) in
          let p : (2 * x + a % 2) / 2 ≡ x = omega arith in
          let q : (2 * x + a % 2) % 2 ≡ a % 2 = omega arith in
          rw (e, p, q) (omega arith)
      | inr e ↦ rw e (omega arith)
    ]

-- the sets that are meant keep their bits
pub bit_kept : (k : ℕ) (s : ℕ → Bool) (a x : ℕ) → x < k → s x ≡ true → bit x (deposit k s (extract k s a)) ≡ bit x a
bit_kept zero s a x h m = let z : ⊥ = omega arith in absurd z
bit_kept (suc k) s a zero h m =
    let x = extract k (tail s) (a / 2) in
    let d = deposit k (tail s) x in
    let p : (2 * x + a % 2) / 2 ≡ x = omega arith in
    let q : (2 * x + a % 2) % 2 ≡ a % 2 = omega arith in
    let r : (2 * d + a % 2) % 2 ≡ a % 2 = omega arith in
    rw (m, p, q, r) refl
bit_kept (suc k) s a (suc x) h m =
    let i = bit_kept k (tail s) (a / 2) x (omega arith) m in
    elim (either (s 0)) [
      | inl e ↦
          let y = extract k (tail s) (a / 2) in
          let d = deposit k (tail s) y in
          let p : (2 * y + a % 2) / 2 ≡ y = omega arith in
          let r : (2 * d + (2 * y + a % 2) % 2) / 2 ≡ d = omega arith in
          rw (e, p, r) i
      | inr e ↦
          let d = deposit k (tail s) (extract k (tail s) (a / 2)) in
          let r : 2 * d / 2 ≡ d = omega arith in
          rw (e, r) i
    ]

-- two columns have one narrow column if the sets that are meant have the same bits
pub extract_same : (k : ℕ) (s : ℕ → Bool) (a b : ℕ) → ((x : ℕ) → x < k → s x ≡ true → bit x a ≡ bit x b) → extract k s a ≡ extract k s b
extract_same zero s a b h = refl
extract_same (suc k) s a b h =
    let i = extract_same k (tail s) (a / 2) (b / 2) (λ x g m. h (suc x) (omega arith) m) in
    elim (either (s 0)) [
      | inl e ↦ rw (e, i) (let o = odd_same a b (h 0 (omega arith) e) in omega arith)
      | inr e ↦ rw e i
    ]
  where
    odd_same : (a b : ℕ) → eqb (a % 2) 1 ≡ eqb (b % 2) 1 → a % 2 ≡ b % 2
    odd_same a b e = elim (eqb_tells (a % 2) 1) [
      | inl p ↦ elim (eqb_tells (b % 2) 1) [ inl q ↦ omega arith | inr q ↦ absurd (false≢true (sym q.0 ∙ sym e ∙ p.0)) ]
      | inr p ↦ elim (eqb_tells (b % 2) 1) [ inl q ↦ absurd (false≢true (sym p.0 ∙ e ∙ q.0)) | inr q ↦ omega arith ]
    ]

-- the narrow columns of the sets that are meant
pub narrow_columns : (k : ℕ) (s : ℕ → Bool) → Narrow k (size k s) (extract k s) (deposit k s)
narrow_columns k s = record { below = λ a h. extract_below k s a; full = λ j h. deposit_below k s j; onto = extract_deposit k s }

-- and: from the narrow columns of both parts' sets to those of one part's
pub narrower : (k : ℕ) (s t : ℕ → Bool) → ((x : ℕ) → s x ≡ true → t x ≡ true) → (a : ℕ) → extract k s (deposit k t (extract k t a)) ≡ extract k s a
narrower k s t i a = extract_same k s (deposit k t (extract k t a)) a (λ x h m. bit_kept k t a x h (i x m))

-- some x: from the narrow columns of the sets without x to those of the part, with a bit put for x. It does not matter whether the part mentions x
pub with_bit : (k x : ℕ) (s t : ℕ → Bool) → ((y : ℕ) → (y ≡ x → ⊥) → s y ≡ true → t y ≡ true) → (b : Bool) (a : ℕ) → extract k s (put_bit x b (deposit k t (extract k t a))) ≡ extract k s (put_bit x b a)
with_bit k x s t i b a = extract_same k s (put_bit x b (deposit k t (extract k t a))) (put_bit x b a) (λ y h m. elim (ℕ_discrete y x) [
  | yes e ↦ rw e (bit_put_here x b (deposit k t (extract k t a)) ∙ sym (bit_put_here x b a))
  | no n ↦ bit_put_other x b (deposit k t (extract k t a)) y n ∙ bit_kept k t a y h (i y n m) ∙ sym (bit_put_other x b a y n)
])

pub extract_zero : (k : ℕ) (s : ℕ → Bool) → extract k s 0 ≡ 0
extract_zero zero s = refl
extract_zero (suc k) s = let i = extract_zero k (tail s) in elim (either (s 0)) [ inl e ↦ rw (e, i) refl | inr e ↦ rw (e, i) refl ]

-- a bit of a set that is chosen is a bit of the narrow column
pub extract_put : (k x : ℕ) (s : ℕ → Bool) → x < k → s x ≡ true → (b : Bool) (a : ℕ) → extract k s (put_bit x b a) ≡ put_bit (size x s) b (extract k s a)
extract_put zero x s h m b a = let z : ⊥ = omega arith in absurd z
extract_put (suc k) zero s h m b a =
    let y = extract k (tail s) (a / 2) in
    let c : cond b 1 0 < 2 = (elim (either b) [ inl e ↦ rw e (omega arith) | inr e ↦ rw e (omega arith) ]) in
    let p : (a / 2 * 2 + cond b 1 0) / 2 ≡ a / 2 = omega arith in
    let q : (a / 2 * 2 + cond b 1 0) % 2 ≡ cond b 1 0 = omega arith in
    let r : (2 * y + a % 2) / 2 ≡ y = omega arith in
    rw (m, p, q, r) (omega arith)
extract_put (suc k) (suc x) s h m b a =
    let i = extract_put k x (tail s) (omega arith) m b (a / 2) in
    let d = put_bit x b (a / 2) in
    let p : (d * 2 + a % 2) / 2 ≡ d = omega arith in
    let q : (d * 2 + a % 2) % 2 ≡ a % 2 = omega arith in
    elim (either (s 0)) [
      | inl e ↦
          let y = extract k (tail s) (a / 2) in
          let r : (2 * y + a % 2) / 2 ≡ y = omega arith in
          let t : (2 * y + a % 2) % 2 ≡ a % 2 = omega arith in
          rw (e, p, q, r, t, i) (omega arith)
      | inr e ↦ rw (e, p, i) refl
    ]

-- one of a set that is not makes no difference
pub extract_past : (k x : ℕ) (s : ℕ → Bool) → s x ≡ false → (b : Bool) (a : ℕ) → extract k s (put_bit x b a) ≡ extract k s a
extract_past k x s n b a = extract_same k s (put_bit x b a) a (λ y h m. bit_put_other x b a y (λ e. false≢true (sym n ∙ subst (λ z. s z ≡ true) e m)))

-- fewer sets are chosen below one that is chosen than in all
pub size_less : (k x : ℕ) (s : ℕ → Bool) → x < k → s x ≡ true → size x s < size k s
size_less zero x s h m = let z : ⊥ = omega arith in absurd z
size_less (suc k) zero s h m = rw m (omega arith)
size_less (suc k) (suc x) s h m =
    let i = size_less k x (tail s) (omega arith) m in
    elim (either (s 0)) [ inl e ↦ rw e (omega arith) | inr e ↦ rw e i ]

pub size_fits : (k : ℕ) (s : ℕ → Bool) → size k s ≤ k
size_fits zero s = omega arith
size_fits (suc k) s = let i = size_fits k (tail s) in elim (either (s 0)) [ inl e ↦ rw e (omega arith) | inr e ↦ rw e (omega arith) ]

-- the same sets are as many
pub size_same : (k : ℕ) (s t : ℕ → Bool) → ((x : ℕ) → s x ≡ t x) → size k s ≡ size k t
size_same zero s t e = refl
size_same (suc k) s t e = ap₂ (λ b n. cond b (suc n) n) (e 0) (size_same k (tail s) (tail t) (λ x. e (suc x)))

-- more sets are at least as many
pub size_more : (k : ℕ) (s t : ℕ → Bool) → ((x : ℕ) → s x ≡ true → t x ≡ true) → size k s ≤ size k t
size_more zero s t i = omega arith
size_more (suc k) s t i =
    let h = size_more k (tail s) (tail t) (λ x e. i (suc x) e) in
    elim (either (s 0)) [
      | inl e ↦ rw (e, i 0 e) (omega arith)
      | inr e ↦ elim (either (t 0)) [ inl g ↦ rw (e, g) (omega arith) | inr g ↦ rw (e, g) h ]
    ]
