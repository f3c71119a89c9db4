-- Rows of bits: what a write changes, and that rows with the same classes are the same words.
use Rattle.std.proofs.Common.{◌≡◌, ℕ, zero, suc, ◌+◌, ◌-◌, ◌*◌, ◌/◌, ◌%◌, ◌^◌, ◌<◌, ◌≤◌, Bool, true, false, ◌⊎◌, List, ◌++◌, length, get_or, take, drop, set, sym, ap, ◌∙◌, subst, inl, inr, arith, length-drop, length-take}
use mathlib.Core.Bool.{false≢true}
use native.Mathlib.Decide.{ℕ_discrete, dec_lt}
use borrow.Rule.Slice.PartMut.{put_mid, post_of}
use Rattle.std.proofs.lemmas.Nat.{div-mul-add, mod-mul-add}
use Rattle.std.proofs.lemmas.List.{get_or-set_same, get_or-set_other, get_or_past, drop_at, take_at, drop-take, length-take-le, ext_get_or}
use Rattle.std.proofs.lemmas.Slice.{take-put_mid_below}
use Rattle.std.proofs.lemmas.Bool.{eq-eqb, eqb-true}
use Rattle.words.specs.Words.{bit}
use Rattle.words.proofs.BitsLaws.{bit_ext, bit_past, bit_zero}
use Rattle.tables.proofs.CellsLaws.{part_at, row_fits}
use Rattle.bitsets.specs.Bitrows.{has, row_at, member, Adds, SomeBit, BitsBelow, Below}

pub bit_low : (y a : ℕ) → a < 2 ^ 32 → bit y a ≡ true → y < 32
bit_low y a h e = elim (dec_lt y 32) [ yes g ↦ g | no n ↦ absurd (false≢true (sym (bit_past 32 y a h (omega arith)) ∙ e)) ]

-- the classes of word z
pub has_word : (row : List ℕ) (z y : ℕ) → y < 32 → has row (z * 32 + y) ≡ bit y (get_or row z 0)
unfolding has
has_word row z y h =
    let e = div-mul-add z 32 y h in
    let f = mod-mul-add z 32 y h in
    rw (e, f)

-- an empty row
pub has_none : (row : List ℕ) → ((z : ℕ) → z < length row → get_or row z 0 ≡ 0) → (q : ℕ) → has row q ≡ false
unfolding has
has_none row h q = elim (dec_lt (q / 32) (length row)) [
  | yes g ↦ ap (bit (q % 32)) (h (q / 32) g) ∙ bit_zero (q % 32)
  | no n ↦ ap (bit (q % 32)) (get_or_past row (q / 32) 0 (omega arith)) ∙ bit_zero (q % 32)
]

-- bit q % 32 put into word q / 32
pub has_put : (row : List ℕ) (q v : ℕ) → q < 32 * length row → bit (q % 32) v ≡ true → ((y : ℕ) → (y ≡ q % 32 → ⊥) → bit y v ≡ bit y (get_or row (q / 32) 0)) → Adds (has row) (has (set row (q / 32) v)) (λ r. r ≡ q)
unfolding has
has_put row q v h here others r = elim (ℕ_discrete r q) [
  | yes e ↦ (λ _. inr e, λ _. rw e (ap (bit (q % 32)) (get_or-set_same row (q / 32) v 0 (omega arith)) ∙ here))
  | no n ↦ (λ t. inl (sym (kept n) ∙ t), λ s. elim s [ inl t ↦ kept n ∙ t | inr e ↦ absurd (n e) ])
]
  where
    kept : (r ≡ q → ⊥) → bit (r % 32) (get_or (set row (q / 32) v) (r / 32) 0) ≡ bit (r % 32) (get_or row (r / 32) 0)
    kept n = elim (ℕ_discrete (r / 32) (q / 32)) [
      | yes e ↦
          let m : r % 32 ≡ q % 32 → ⊥ = λ f. n (omega arith) in
          ap (λ z. bit (r % 32) (get_or (set row (q / 32) v) z 0)) e ∙ ap (bit (r % 32)) (get_or-set_same row (q / 32) v 0 (omega arith)) ∙ others (r % 32) m ∙ ap (λ z. bit (r % 32) (get_or row z 0)) (sym e)
      | no m ↦ ap (bit (r % 32)) (get_or-set_other row (q / 32) (r / 32) v 0 m)
    ]

-- rows of one length with the same classes are the same words
pub has_ext : (u v : List ℕ) → length u ≡ length v → ((z : ℕ) → get_or u z 0 < 2 ^ 32) → ((z : ℕ) → get_or v z 0 < 2 ^ 32) → has u ≡ has v → u ≡ v
has_ext u v l h g e = ext_get_or 0 u v l (λ z _. bit_ext (get_or u z 0) (get_or v z 0) (λ y. elim (dec_lt y 32) [
  | yes o ↦ sym (has_word u z y o) ∙ ap (λ f. f (z * 32 + y)) e ∙ has_word v z y o
  | no n ↦ bit_past 32 y (get_or u z 0) (h z) (omega arith) ∙ sym (bit_past 32 y (get_or v z 0) (g z) (omega arith))
]))

-- the bits of a word, shifted down one by one
module _ (P : ℕ → Type 0) where
  pub some_bit_now : (q word : ℕ) → word % 2 ≡ 1 → P q → SomeBit P q word
  some_bit_now q word e p = let z : q + 0 ≡ q = omega arith in (0, eq-eqb (word % 2) 1 e, subst P (sym z) p)

  pub some_bit_later : (q word : ℕ) → SomeBit P (q + 1) (word / 2) → SomeBit P q word
  some_bit_later q word s = let z : q + 1 + s.0 ≡ q + suc s.0 = omega arith in (suc s.0, s.1, subst P z s.2)

  pub some_bit_split : (q word : ℕ) → SomeBit P q word → ((word % 2 ≡ 1) × P q) ⊎ SomeBit P (q + 1) (word / 2)
  some_bit_split q word s = elim s.0 as (λ y. bit y word ≡ true → P (q + y) → ((word % 2 ≡ 1) × P q) ⊎ SomeBit P (q + 1) (word / 2)) [
    | zero ↦ λ e p. inl (eqb-true (word % 2) 1 e, (let z : q + 0 ≡ q = omega arith in subst P z p))
    | suc y ↦ λ e p. inr (y, e, (let z : q + suc y ≡ q + 1 + y = omega arith in subst P z p))
  ] s.1 s.2

  pub some_bit_none : (q : ℕ) → SomeBit P q 0 → ⊥
  some_bit_none q s = false≢true (sym (bit_zero s.0) ∙ s.1)

pub bits_below_now : (n q word : ℕ) → BitsBelow n q word → word % 2 ≡ 1 → q < n
bits_below_now n q word b e = let h = b 0 (eq-eqb (word % 2) 1 e) in omega arith

pub bits_below_later : (n q word : ℕ) → BitsBelow n q word → BitsBelow n (q + 1) (word / 2)
bits_below_later n q word b y e = let h = b (suc y) e in omega arith

-- a row, word by word
pub has_below : (row : List ℕ) (q : ℕ) → has row q ≡ true → q < length row * 32
unfolding has
has_below row q e = elim (dec_lt (q / 32) (length row)) [
  | yes g ↦ omega arith
  | no n ↦ absurd (false≢true (sym (ap (bit (q % 32)) (get_or_past row (q / 32) 0 (omega arith)) ∙ bit_zero (q % 32)) ∙ e))
]

-- some class of the set below n, of which P holds
abbrev pub SomeBelow : (ℕ → Type 0) → (ℕ → Bool) → ℕ → Type 0
SomeBelow P X n = (q : ℕ) × (q < n) × (X q ≡ true) × P q

module _ (row : List ℕ) (z : ℕ) (small : get_or row z 0 < 2 ^ 32) where
  pub word_bits : (n : ℕ) → Below n (has row) → BitsBelow n (z * 32) (get_or row z 0)
  word_bits n b y e = let h = bit_low y (get_or row z 0) small e in b (z * 32 + y) (has_word row z y h ∙ e)

  module _ (P : ℕ → Type 0) where
    pub word_here : SomeBit P (z * 32) (get_or row z 0) → SomeBelow P (has row) ((z + 1) * 32)
    word_here s = let (y, e, p) = s in let h = bit_low y (get_or row z 0) small e in (z * 32 + y, omega arith, has_word row z y h ∙ e, p)

    pub word_before : SomeBelow P (has row) (z * 32) → SomeBelow P (has row) ((z + 1) * 32)
    word_before s = (s.0, omega (arith, s.1), s.2, s.3)

    pub word_split : SomeBelow P (has row) ((z + 1) * 32) → SomeBelow P (has row) (z * 32) ⊎ SomeBit P (z * 32) (get_or row z 0)
    word_split s = let (q, h, e, p) = s in elim (dec_lt q (z * 32)) [
      | yes g ↦ inl (q, g, e, p)
      | no n ↦
          let y = q - z * 32 in
          let l : y < 32 = omega arith in
          let f : z * 32 + y ≡ q = omega arith in
          inr (y, sym (has_word row z y l) ∙ ap (has row) f ∙ e, subst P (sym f) p)
    ]

pub some_below_none : (P : ℕ → Type 0) (X : ℕ → Bool) → SomeBelow P X 0 → ⊥
some_below_none P X s = omega (arith, s.1)

-- rows of w words, one behind the other
module _ (sets : List ℕ) (w i : ℕ) where
  pub row_part : take (i * w + w - i * w) (drop (i * w) sets) ≡ row_at sets w i
  unfolding row_at
  row_part = let e : i * w + w - i * w ≡ w = omega arith in rw e

  pub row_length : i * w + w ≤ length sets → length (row_at sets w i) ≡ w
  unfolding row_at
  row_length h = simp (length-take, length-drop) (omega arith)

  pub part_length : i * w + w ≤ length sets → length (take (i * w + w - i * w) (drop (i * w) sets)) ≡ w
  part_length h = ap length row_part ∙ row_length h

  pub row_word : (z : ℕ) → z < w → get_or (row_at sets w i) z 0 ≡ get_or sets (i * w + z) 0
  unfolding row_at
  row_word z h = part_at sets (i * w) w z h

  pub row_small : ((z : ℕ) → get_or sets z 0 < 2 ^ 32) → (z : ℕ) → get_or (row_at sets w i) z 0 < 2 ^ 32
  unfolding row_at
  row_small h z = elim (dec_lt z w) [
    | yes g ↦ subst (λ x. x < 2 ^ 32) (sym (part_at sets (i * w) w z g)) (h (i * w + z))
    | no n ↦ subst (λ x. x < 2 ^ 32) (sym (get_or_past (take w (drop (i * w) sets)) z 0 (simp length-take (omega arith)))) (omega arith)
  ]

  -- another row put in place of row i
  module _ (row : List ℕ) (h : i * w + w ≤ length sets) (l : length row ≡ w) where
    pub row_put_here : row_at (put_mid (i * w) (i * w + w - i * w) sets row) w i ≡ row
    unfolding row_at
    row_put_here =
        ap (take w) (drop_at (take (i * w) sets) (row ++ post_of (i * w) (i * w + w - i * w) sets) (i * w) (length-take-le (i * w) sets (omega arith)))
        ∙ take_at row (post_of (i * w) (i * w + w - i * w) sets) w l

    pub row_put_before : (j : ℕ) → j < i → row_at (put_mid (i * w) (i * w + w - i * w) sets row) w j ≡ row_at sets w j
    unfolding row_at
    row_put_before j g =
        let f = row_fits j i w g in
        let k = i * w + w - i * w in
        sym (drop-take (j * w) w (put_mid (i * w) k sets row))
        ∙ ap (drop (j * w)) (take-put_mid_below (i * w) k sets row (j * w + w) f (omega arith))
        ∙ drop-take (j * w) w sets

-- rows that are the same set are the same words
pub row_ext : (sets : List ℕ) (w i j : ℕ) → i * w + w ≤ length sets → j * w + w ≤ length sets → ((z : ℕ) → get_or sets z 0 < 2 ^ 32) → member sets w i ≡ member sets w j → row_at sets w i ≡ row_at sets w j
row_ext sets w i j h g small e = has_ext (row_at sets w i) (row_at sets w j) (row_length sets w i h ∙ sym (row_length sets w j g)) (row_small sets w i small) (row_small sets w j small) e

-- the first row
pub row_first : (row rest : List ℕ) (w : ℕ) → length row ≡ w → row_at (row ++ rest) w 0 ≡ row
unfolding row_at
row_first row rest w l = let e : 0 * w ≡ 0 = omega arith in rw e (take_at row rest w l)
