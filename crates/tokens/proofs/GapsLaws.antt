-- Blanks and comments, as they are counted.
use Rattle.std.proofs.Common.{◌≡◌, ℕ, suc, ◌-◌, ◌≤◌, Bool, true, false, IsTrue, List, [], ◌∷◌, length, take, drop, refl, subst, arith, if◌then◌else◌}
use Rattle.std.proofs.lemmas.List.{take_rest}
use Rattle.tokens.specs.Gaps.{goes_on, in_comment, is_gap_from, is_gap, gap_len}

counted : (c : Bool) (s : List ℕ) → is_gap_from c (take (gap_len c s) s) ≡ true
counted c [] = refl
counted c (b ∷ s) = go (goes_on c b) refl (counted (in_comment c b) s) where
  go : (p : Bool) → goes_on c b ≡ p → is_gap_from (in_comment c b) (take (gap_len (in_comment c b) s) s) ≡ true → is_gap_from c (take (if p then suc (gap_len (in_comment c b) s) else 0) (b ∷ s)) ≡ true
  go true e ih = rw e ih
  go false e ih = refl

pub gap_counted : (s : List ℕ) (n : ℕ) → n ≡ gap_len false s → IsTrue (is_gap_from false (take n s))
gap_counted s n e = rw e (counted false s)

pub gap_within : (c : Bool) (s : List ℕ) → gap_len c s ≤ length s
gap_within c [] = omega arith
gap_within c (b ∷ s) = go (goes_on c b) (gap_within (in_comment c b) s) where
  go : (p : Bool) → gap_len (in_comment c b) s ≤ length s → (if p then suc (gap_len (in_comment c b) s) else 0) ≤ suc (length s)
  go true h = omega (arith, h)
  go false h = omega arith

-- the rest of a text, as a slice
pub gap_of : (s : List ℕ) (at n : ℕ) → IsTrue (is_gap (take n (take (length s - at) (drop at s)))) → IsTrue (is_gap (take n (drop at s)))
gap_of s at n g = subst (λ (t : List ℕ). IsTrue (is_gap (take n t))) (take_rest s at) g
