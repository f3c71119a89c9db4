-- Digits and names, as they are counted.
use Rattle.std.proofs.Common.{◌≡◌, ◌≤◌, ℕ, suc, ◌+◌, Bool, true, false, cond, IsTrue, List, [], ◌∷◌, length, take, get_or, refl, sym, subst, arith}
use Rattle.std.specs.List.{prefix_len}
use Rattle.tokens.specs.Spelling.{is_digit, is_letter, in_name, each, is_number, is_name}

counted : (p : ℕ → Bool) (s : List ℕ) → each p (take (prefix_len p s) s) ≡ true
counted p [] = refl
counted p (b ∷ s) = go (p b) refl (counted p s) where
  go : (q : Bool) → p b ≡ q → each p (take (prefix_len p s) s) ≡ true → each p (take (cond q (1 + prefix_len p s) 0) (b ∷ s)) ≡ true
  go true e ih =
      let k : 1 + prefix_len p s ≡ suc (prefix_len p s) = omega arith in
      subst (λ (n : ℕ). each p (take n (b ∷ s)) ≡ true) (sym k) (rw e ih)
  go false e ih = refl

count_front : (p : ℕ → Bool) (b : ℕ) (s : List ℕ) → p b ≡ true → take (prefix_len p (b ∷ s)) (b ∷ s) ≡ b ∷ take (prefix_len p s) s
count_front p b s e =
    let k : 1 + prefix_len p s ≡ suc (prefix_len p s) = omega arith in
    rw e (subst (λ (n : ℕ). take n (b ∷ s) ≡ b ∷ take (prefix_len p s) s) (sym k) refl)

pub number_counted : (s : List ℕ) (n : ℕ) → n ≡ prefix_len is_digit s → is_digit (get_or s 0 0) ≡ true → 1 ≤ length s → IsTrue (is_number (take n s))
number_counted [] n e first h = absurd (omega (arith, h))
number_counted (b ∷ s) n e first h = rw e (rw (count_front is_digit b s first) (rw first (counted is_digit s)))

letter_in_name : (b : ℕ) → is_letter b ≡ true → in_name b ≡ true
letter_in_name b h = rw h refl

pub name_counted : (s : List ℕ) (n : ℕ) → n ≡ prefix_len in_name s → is_letter (get_or s 0 0) ≡ true → 1 ≤ length s → IsTrue (is_name (take n s))
name_counted [] n e first h = absurd (omega (arith, h))
name_counted (b ∷ s) n e first h = rw e (rw (count_front in_name b s (letter_in_name b first)) (rw first (counted in_name s)))
