-- That the lent memory suffices: a shorter part needs no more, and of the two parts of an and the
-- smaller gets by with one slot fewer.
use Rattle.std.proofs.Common.{◌≡◌, ℕ, zero, suc, ◌+◌, ◌*◌, ◌^◌, ◌<◌, ◌≤◌, suc-mul, pow-suc, arith}
use Rattle.std.proofs.lemmas.Nat.{mul-le}
use Rattle.tables.specs.declared.sheet.Shape.{Shape}
use Rattle.workspace.specs.Cut.{slot_words, scratch_words, pair_words}
use Rattle.construct.specs.WorkOut.{Lent}

pub lent_shorter : (b t : ℕ) (h : Shape) (free : ℕ) → t ≤ b → Lent b h free → Lent t h free
lent_shorter b t h free g l = record { slots = l.slots; bytes = omega (arith, l.bytes); free_fits = l.free_fits }

-- a part of four bytes or more has three slots at least: two are free beside its own table
slots_three : (h : ℕ) → 4 ≤ 2 ^ h → 3 ≤ suc h
slots_three zero l = let z : ⊥ = omega arith in absurd z
slots_three (suc zero) l = let z : ⊥ = omega arith in absurd z
slots_three (suc (suc h)) l = omega arith

four_slots : (h s : ℕ) → 4 ≤ s → s < 2 ^ h → 3 ≤ h
four_slots zero s l g = let z : ⊥ = omega arith in absurd z
four_slots (suc zero) s l g = let z : ⊥ = omega arith in absurd z
four_slots (suc (suc zero)) s l g = let z : ⊥ = omega arith in absurd z
four_slots (suc (suc (suc h))) s l g = omega arith

pub two_free : (b : ℕ) (h : Shape) (free : ℕ) → 4 ≤ b → Lent b h free → slot_words h.width h.most + slot_words h.width h.most ≤ free
two_free b h free g l =
    let m = mul-le 3 (slot_words h.width h.most) l.slots (slot_words h.width h.most) (four_slots l.slots b g l.bytes) (omega arith) in
    omega (arith, l.free_fits)

pub one_free : (b : ℕ) (h : Shape) (free : ℕ) → 4 ≤ b → Lent b h free → slot_words h.width h.most ≤ free
one_free b h free g l = let t = two_free b h free g l in omega arith

-- the smaller part of an and gets a slot of its own and what is left behind it
half_bytes : (h s b : ℕ) → 2 * b < s → s < 2 ^ suc h → b < 2 ^ h
half_bytes h s b l g = omega (arith, pow-suc 2 h)

module _ (b : ℕ) (h : Shape) (free rest : ℕ) (cut : rest + slot_words h.width h.most ≡ free) (l : Lent b h free) where
  pub lent_smaller : (t : ℕ) → 2 * t < b → Lent t h rest
  lent_smaller t g = at l.slots l.bytes l.free_fits
    where
      at : (i : ℕ) → b < 2 ^ i → i * slot_words h.width h.most ≤ slot_words h.width h.most + free → Lent t h rest
      at zero o f = let z : ⊥ = omega arith in absurd z
      at (suc i) o f = record { slots = i; bytes = half_bytes i b t g o; free_fits = omega (arith, suc-mul i (slot_words h.width h.most)) }

  -- and one more slot where the two are made one
  pub rest_free : 4 ≤ b → slot_words h.width h.most ≤ rest
  rest_free g = let t = two_free b h free g l in omega arith

-- the words that the call asks for are a slot for the claim's own table, nine free ones, two spare
-- ones, scratch and pairs
pub whole_room : (n W w : ℕ) → 8192 + (n + 1) * (16 * W + (256 + n)) ≤ w → slot_words W n + (9 * slot_words W n + (2 * slot_words W n + (scratch_words W n + pair_words n))) ≤ w
whole_room n W w h = omega (arith, h)
