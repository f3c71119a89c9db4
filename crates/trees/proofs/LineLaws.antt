-- A line is what is cut out from its first byte to its end.
use Rattle.std.proofs.Common.{◌≡◌, ℕ, ◌+◌, ◌-◌, ◌≤◌, ◌==◌, Bool, not, List, ◌++◌, length, take, drop, reverse, position, unwrap_or, Option, sym, ap, ◌∙◌, arith, length-drop, length-append}
use Rattle.std.specs.List.{position_or_len, suffix_len}
use Rattle.std.proofs.lemmas.Bool.Decides.{nat_tests}
use Rattle.std.proofs.lemmas.List.{take-append-drop, drop-append-le, length-reverse}
use Rattle.std.proofs.lemmas.List.Sums.{prefix_len-le-length}
use Rattle.std.proofs.Math.Seq.{take-append-add}

within : (p : ℕ → Bool) (xs : List ℕ) → position_or_len p xs ≤ length xs
within p xs = prefix_len-le-length (λ x. not (p x)) xs

-- the first place that passes, or the length
pub position_else : (p : ℕ → Bool) (xs : List ℕ) (o : Option ℕ) → o ≡ position p xs → unwrap_or o (length xs) ≡ position_or_len p xs
position_else p xs o e = let le = within p xs in rw e (grind (arith, nat_tests, le))

pub first_else : (xs : List ℕ) (o : Option ℕ) → o ≡ position (λ b. b == 10) xs → unwrap_or o (length xs) ≡ position_or_len (λ b. b == 10) xs
first_else xs o e = position_else (λ b. b == 10) xs o e

pub first_within : (xs : List ℕ) → position_or_len (λ b. b == 10) xs ≤ length xs
first_within xs = within (λ b. b == 10) xs

pub last_else : (xs : List ℕ) (o : Option ℕ) → o ≡ position (λ b. b == 10) (reverse xs) → unwrap_or o (length xs) ≡ suffix_len (λ b. not (b == 10)) xs
last_else xs o e = ap (λ n. unwrap_or o n) (sym (length-reverse xs)) ∙ position_else (λ b. b == 10) (reverse xs) o e

pub last_within : (xs : List ℕ) → suffix_len (λ b. not (b == 10)) xs ≤ length xs
last_within xs = let le = within (λ b. b == 10) (reverse xs) in let e = length-reverse xs in omega (arith, le, e)

pub two_parts : (text : List ℕ) (index : ℕ) → length text ≡ length (take index text) + length (drop index text)
two_parts text index = ap (λ t. length t) (sym (take-append-drop index text)) ∙ length-append (take index text) (drop index text)

-- a line that begins m bytes before the index and ends k bytes behind it
pub line_is : (text : List ℕ) (index m k : ℕ) → m ≤ length (take index text) → k ≤ length (drop index text) →
    take (length text - (length (drop index text) - k) - (length (take index text) - m)) (drop (length (take index text) - m) text) ≡ drop (length (take index text) - m) (take index text) ++ take k (drop index text)
line_is text index m k le lk =
    let xs = take index text in
    let ys = drop index text in
    let a = length xs - m in
    let whole : drop a text ≡ drop a xs ++ ys = ap (λ t. drop a t) (sym (take-append-drop index text)) ∙ drop-append-le a xs ys (omega arith) in
    let long = two_parts text index in
    let n : length text - (length ys - k) - a ≡ length (drop a xs) + k = omega (arith, length-drop a xs, long) in
    ap (λ t. take (length text - (length ys - k) - a) t) whole ∙ ap (λ j. take j (drop a xs ++ ys)) n ∙ take-append-add (drop a xs) ys k
