-- Lemmas on the ruler.
use Rattle.std.proofs.Common.{◌≡◌, ℕ, zero, suc, ◌+◌, ◌*◌, ◌-◌, ◌^◌, List, [], ◌∷◌, ◌++◌, length, append_assoc, ap, refl, encode_utf8, arith, rules, add-one}
use Rattle.std.proofs.lemmas.Str.{encode_ascii}
use Rattle.std.specs.Fmt.{decimal, format_spec, styled_decimal, padded_integral, char_count}
use Rattle.std.specs.List.{repeat}
use Rattle.display.specs.declared.ends.Ends.{Ends}
use Rattle.display.specs.Ruler.{ten_wide, blanks, tens_before, margin}

repeat-blank : (n : ℕ) → repeat n (32 ∷ []) ≡ blanks n
repeat-blank zero = refl
repeat-blank (suc n) = ap (λ (text : List ℕ). 32 ∷ text) (repeat-blank n)

filled : (n m : ℕ) → n ≡ m → repeat n (encode_utf8 32) ≡ blanks m
filled n m same = rw (same, encode_ascii 32 (search rules)) (repeat-blank m)

-- what a hole for ten signs, the number on the left, writes of a number
pub number_written : (s : _) (number : ℕ) → s ≡ format_spec 32 1 0 10 (2 ^ 64 - 1) → styled_decimal s number ≡ ten_wide number
unfolding padded_integral char_count
number_written s number options = rw options (ap (λ (text : List ℕ). decimal number ++ text) (filled _ (10 - length (decimal number)) (omega arith)))

-- the numbers of one tenth place more
pub tens_before-more : (width : ℕ) (ends : Ends) (from k : ℕ)
    → (margin width ends ++ tens_before from k) ++ ten_wide (from + 10 * k) ≡ margin width ends ++ tens_before from (k + 1)
tens_before-more width ends from k = rw (add-one k) (append_assoc (margin width ends) (tens_before from k) (ten_wide (from + 10 * k)))
