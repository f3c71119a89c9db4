-- A column with one bit put: what its bits are, that it stays below 2 ^ k, that bits determine a number; and the same by the operators on words.
use Rattle.std.proofs.Common.{◌≡◌, ℕ, zero, suc, ◌+◌, ◌-◌, ◌*◌, ◌/◌, ◌%◌, ◌^◌, ◌<◌, ◌≤◌, min, max, Bool, true, false, cond, eqb, sym, refl, ap, ◌∙◌, inl, inr, mod-eq_of_lt, pow-suc, arith, pow_pos}
use lib.Bits.{bit_and, bit_or, and_step, or_step, or_zero_r, and_mask}
use lib.Dec.{eqb-suc-zero, eqb-zero-suc, eqb-suc-suc}
use lib.Pow.{pow-lt}
use Rattle.std.proofs.lemmas.Nat.{one_shl, shr-shr}
use Rattle.std.proofs.lemmas.Bool.Decides.{eqb_tells}
use Rattle.words.specs.Bits.{put_bit}
use Rattle.words.specs.Words.{bit}

pub bit_put : (x : ℕ) (b : Bool) (a y : ℕ) → bit y (put_bit x b a) ≡ cond (eqb y x) b (bit y a)
bit_put zero true a zero = let e : (a / 2 * 2 + 1) % 2 ≡ 1 = omega arith in rw e
bit_put zero false a zero = let e : (a / 2 * 2 + 0) % 2 ≡ 0 = omega arith in rw e
bit_put zero true a (suc y) = let e : (a / 2 * 2 + 1) / 2 ≡ a / 2 = omega arith in rw (e, eqb-suc-zero y)
bit_put zero false a (suc y) = let e : (a / 2 * 2 + 0) / 2 ≡ a / 2 = omega arith in rw (e, eqb-suc-zero y)
bit_put (suc x) b a zero = let e : (put_bit x b (a / 2) * 2 + a % 2) % 2 ≡ a % 2 = omega arith in rw (e, eqb-zero-suc x)
bit_put (suc x) b a (suc y) = let e : (put_bit x b (a / 2) * 2 + a % 2) / 2 ≡ put_bit x b (a / 2) = omega arith in rw (e, eqb-suc-suc y x) (bit_put x b (a / 2) y)

pub bit_put_here : (x : ℕ) (b : Bool) (a : ℕ) → bit x (put_bit x b a) ≡ b
bit_put_here x b a = elim (eqb_tells x x) [ inl p ↦ bit_put x b a x ∙ ap (λ t. cond t b (bit x a)) p.0 | inr p ↦ absurd (p.1 refl) ]

pub bit_put_other : (x : ℕ) (b : Bool) (a y : ℕ) → (y ≡ x → ⊥) → bit y (put_bit x b a) ≡ bit y a
bit_put_other x b a y n = elim (eqb_tells y x) [ inl p ↦ absurd (n p.1) | inr p ↦ bit_put x b a y ∙ ap (λ t. cond t b (bit y a)) p.0 ]

pub put_bit_below : (k x : ℕ) (b : Bool) (a : ℕ) → x < k → a < 2 ^ k → put_bit x b a < 2 ^ k
put_bit_below zero x b a h g = let z : ⊥ = omega arith in absurd z
put_bit_below (suc k) zero true a h g = omega (arith, pow-suc 2 k)
put_bit_below (suc k) zero false a h g = omega (arith, pow-suc 2 k)
put_bit_below (suc k) (suc x) b a h g = let r = put_bit_below k x b (a / 2) (omega arith) (omega (arith, pow-suc 2 k)) in omega (arith, pow-suc 2 k)

-- the number 0 has no bits, and a number below 2 ^ n none from n on
pub bit_zero : (y : ℕ) → bit y 0 ≡ false
bit_zero zero = refl
bit_zero (suc y) = bit_zero y

pub bit_past : (n y a : ℕ) → a < 2 ^ n → n ≤ y → bit y a ≡ false
bit_past zero y a h g = let z : a ≡ 0 = omega arith in rw z (bit_zero y)
bit_past (suc n) zero a h g = let z : ⊥ = omega arith in absurd z
bit_past (suc n) (suc y) a h g = bit_past n y (a / 2) (omega (arith, pow-suc 2 n)) (omega arith)

-- numbers with the same bits are equal
same_odd : (a b : ℕ) → eqb (a % 2) 1 ≡ eqb (b % 2) 1 → a % 2 ≡ b % 2
same_odd a b e = elim (eqb_tells (a % 2) 1) [
  | inl p ↦ elim (eqb_tells (b % 2) 1) [ inl q ↦ omega arith | inr q ↦ let z : true ≡ false = cc in let z : ◌≡◌ {A = ℕ} 0 1 = cc in omega arith ]
  | inr p ↦ elim (eqb_tells (b % 2) 1) [ inl q ↦ let z : true ≡ false = cc in let z : ◌≡◌ {A = ℕ} 0 1 = cc in omega arith | inr q ↦ omega arith ]
]

bits_determine : (n a b : ℕ) → a ≤ n → b ≤ n → ((y : ℕ) → bit y a ≡ bit y b) → a ≡ b
bits_determine zero a b h g e = omega arith
bits_determine (suc n) a b h g e =
    let r = bits_determine n (a / 2) (b / 2) (omega arith) (omega arith) (λ y. e (suc y)) in
    omega (arith, same_odd a b (e 0))

pub bit_ext : (a b : ℕ) → ((y : ℕ) → bit y a ≡ bit y b) → a ≡ b
bit_ext a b e = bits_determine (a + b) a b (omega arith) (omega arith) e

-- a column that agrees with a in all bits but x is a with that bit put
pub agree_put : (x a b : ℕ) → ((y : ℕ) → (y ≡ x → ⊥) → bit y a ≡ bit y b) → b ≡ put_bit x (bit x b) a
agree_put x a b h = bit_ext b (put_bit x (bit x b) a) (λ y. elim (eqb_tells y x) [
  | inl p ↦ ap (λ z. bit z b) p.1 ∙ sym (ap (λ z. bit z (put_bit x (bit x b) a)) p.1 ∙ bit_put_here x (bit x b) a)
  | inr p ↦ sym (h y p.1) ∙ sym (bit_put_other x (bit x b) a y p.1)
])

-- the operators on words: or, and not, shift
half_pow : (x : ℕ) → 2 ^ suc x / 2 ≡ 2 ^ x
half_pow x = omega (arith, pow-suc 2 x)

even_pow : (x : ℕ) → 2 ^ suc x % 2 ≡ 0
even_pow x = omega (arith, pow-suc 2 x)

pub put_or : (x a : ℕ) → put_bit x true a ≡ bit_or a (2 ^ x)
put_or zero a = let e = or_step a 1 in let z = or_zero_r (a / 2) in rw e (omega arith)
put_or (suc x) a =
    let e = or_step a (2 ^ suc x) in
    let i = put_or x (a / 2) in
    let h = half_pow x in
    let g = even_pow x in
    let e' : bit_or a (2 ^ suc x) ≡ bit_or (a / 2) (2 ^ x) * 2 + max (a % 2) 0 = rw (h, g) at e in
    omega arith

-- of words of w bits
pub put_and : (w x a : ℕ) → x < w → a < 2 ^ w → put_bit x false a ≡ bit_and a (2 ^ w - 1 - 2 ^ x)
put_and zero x a h g = let z : ⊥ = omega arith in absurd z
put_and (suc w) zero a h g =
    let M = 2 ^ suc w - 1 - 2 ^ 0 in
    let e = and_step a M in
    let p = pow-suc 2 w in
    let q = pow_pos w in
    let m₁ : M / 2 ≡ 2 ^ w - 1 = omega arith in
    let m₂ : M % 2 ≡ 0 = omega arith in
    let e' : bit_and a M ≡ bit_and (a / 2) (2 ^ w - 1) * 2 + min (a % 2) 0 = rw (m₁, m₂) at e in
    let k = and_mask (a / 2) w in
    let l = mod-eq_of_lt {n = a / 2} {m = 2 ^ w} (omega arith) in
    omega arith
put_and (suc w) (suc x) a h g =
    let M = 2 ^ suc w - 1 - 2 ^ suc x in
    let e = and_step a M in
    let p = pow-suc 2 w in
    let p' = pow-suc 2 x in
    let q = pow_pos w in
    let o : x < w = omega arith in
    let q' : 2 ^ x < 2 ^ w = pow-lt o in
    let m₁ : M / 2 ≡ 2 ^ w - 1 - 2 ^ x = omega arith in
    let m₂ : M % 2 ≡ 1 = omega arith in
    let e' : bit_and a M ≡ bit_and (a / 2) (2 ^ w - 1 - 2 ^ x) * 2 + min (a % 2) 1 = rw (m₁, m₂) at e in
    let i = put_and w x (a / 2) (omega arith) (omega arith) in
    omega arith

-- r is a with bit x put: what the operators make of a, the shift as words of w bits have it
pub record Puts (x : ℕ) (b : Bool) (a r : ℕ) : Type 0 where
  pub here : bit x r ≡ b
  pub others : (y : ℕ) → (y ≡ x → ⊥) → bit y r ≡ bit y a

puts : (x : ℕ) (b : Bool) (a r : ℕ) → put_bit x b a ≡ r → Puts x b a r
puts x b a r e = rw (sym e) (record { here = bit_put_here x b a; others = bit_put_other x b a })

pub or_puts : (w x a : ℕ) → x < w → Puts x true a (bit_or a ((1 * 2 ^ x) % 2 ^ w))
or_puts w x a h = puts x true a (bit_or a ((1 * 2 ^ x) % 2 ^ w)) (put_or x a ∙ ap (bit_or a) (sym (one_shl x w h)))

pub and_puts : (w x a : ℕ) → x < w → a < 2 ^ w → Puts x false a (bit_and a (2 ^ w - 1 - (1 * 2 ^ x) % 2 ^ w))
and_puts w x a h g = puts x false a (bit_and a (2 ^ w - 1 - (1 * 2 ^ x) % 2 ^ w)) (put_and w x a h g ∙ ap (λ m. bit_and a (2 ^ w - 1 - m)) (sym (one_shl x w h)))

pub bit_shift : (x a : ℕ) → bit x a ≡ eqb (a / 2 ^ x % 2) 1
bit_shift zero a = let e : a / 1 ≡ a = omega arith in rw e
bit_shift (suc x) a =
    let e : a / 2 / 2 ^ x ≡ a / 2 ^ suc x = shr-shr a 1 x ∙ ap (λ n. a / 2 ^ n) (omega arith) in
    bit_shift x (a / 2) ∙ ap (λ n. eqb (n % 2) 1) e
