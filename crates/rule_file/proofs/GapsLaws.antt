-- Blanks and comments, as the lexer counts them.
use Rattle.std.proofs.Common.{◌≡◌, ℕ, zero, suc, ◌+◌, ◌-◌, ◌<◌, ◌≤◌, ◌==◌, ◌||◌, Bool, true, false, cond, IsTrue, List, [], ◌∷◌, length, take, drop, drop-cons, get_or, refl, sym, subst, arith}
use Rattle.std.specs.List.{prefix_len}
use Rattle.std.proofs.Math.ListN.{drop_of_length-le}
use Rattle.std.proofs.lemmas.List.{drop-drop, take_rest}
use Rattle.rule_file.specs.Gaps.{is_blank, in_line, in_line_byte, is_gap, ends_line}

-- where a text begins with a gap and the line ends behind it, the line ends at the front
pub ends_gap : (s : List ℕ) (n : ℕ) → IsTrue (is_gap (take n s)) → IsTrue (ends_line (drop n s)) → IsTrue (ends_line s)
ends_gap s zero g e = e
ends_gap [] (suc n) g e = e
ends_gap (b ∷ s) (suc n) g e = go (is_blank b) (b == 35) (b == 10) (ends_gap s n) g e where
  go : (p q r : Bool) → (IsTrue (is_gap (take n s)) → IsTrue (ends_line (drop n s)) → IsTrue (ends_line s)) → IsTrue (cond p (is_gap (take n s)) (cond q (in_line (take n s)) false)) → IsTrue (ends_line (drop n s)) → IsTrue (cond p (ends_line s) (r || q))
  go true q r ih g e = ih g e
  go false true true ih g e = refl
  go false true false ih g e = refl
  go false false r ih g e = let k : false ≡ true = g in cc

-- what stands before the first end of a line has none
pub comment_in_line : (s : List ℕ) → IsTrue (in_line (take (prefix_len in_line_byte s) s))
comment_in_line [] = refl
comment_in_line (b ∷ s) = go (in_line_byte b) refl (comment_in_line s) where
  go : (p : Bool) → in_line_byte b ≡ p → IsTrue (in_line (take (prefix_len in_line_byte s) s)) → IsTrue (in_line (take (cond p (1 + prefix_len in_line_byte s) 0) (b ∷ s)))
  go true e ih =
      let k : 1 + prefix_len in_line_byte s ≡ suc (prefix_len in_line_byte s) = omega arith in
      subst (λ (t : ℕ). IsTrue (in_line (take t (b ∷ s)))) (sym k)
      (subst (λ (t : Bool). IsTrue (cond t (in_line (take (prefix_len in_line_byte s) s)) false)) (sym e) ih)
  go false e ih = refl

-- blanks are a gap
pub blanks_gap : (s : List ℕ) → IsTrue (is_gap (take (prefix_len is_blank s) s))
blanks_gap [] = refl
blanks_gap (b ∷ s) = go (is_blank b) refl (blanks_gap s) where
  go : (p : Bool) → is_blank b ≡ p → IsTrue (is_gap (take (prefix_len is_blank s) s)) → IsTrue (is_gap (take (cond p (1 + prefix_len is_blank s) 0) (b ∷ s)))
  go true e ih =
      let n : ℕ = prefix_len is_blank s in
      let k : 1 + n ≡ suc n = omega arith in
      subst (λ (t : ℕ). IsTrue (is_gap (take t (b ∷ s)))) (sym k)
      (subst (λ (t : Bool). IsTrue (cond t (is_gap (take n s)) (cond (b == 35) (in_line (take n s)) false))) (sym e) ih)
  go false e ih = refl

-- a comment is a gap
comment_gap_front : (b : ℕ) (s : List ℕ) → b ≡ 35 → IsTrue (is_gap (take (prefix_len in_line_byte (b ∷ s)) (b ∷ s)))
comment_gap_front b s e =
    let n : ℕ = prefix_len in_line_byte s in
    let k : 1 + n ≡ suc n = omega arith in
    subst (λ (t : ℕ). IsTrue (is_gap (take (prefix_len in_line_byte (t ∷ s)) (t ∷ s)))) (sym e)
    (subst (λ (t : ℕ). IsTrue (is_gap (take t (35 ∷ s)))) (sym k) (comment_in_line s))

-- blanks and a comment behind them are a gap
comment_gap : (s : List ℕ) → get_or s (prefix_len is_blank s) 0 ≡ 35 → IsTrue (is_gap (take (prefix_len is_blank s + prefix_len in_line_byte (drop (prefix_len is_blank s) s)) s))
comment_gap [] h = refl
comment_gap (b ∷ s) h = go (is_blank b) refl h (comment_gap s) where
  go : (p : Bool) → is_blank b ≡ p → get_or (b ∷ s) (cond p (1 + prefix_len is_blank s) 0) 0 ≡ 35
      → (get_or s (prefix_len is_blank s) 0 ≡ 35 → IsTrue (is_gap (take (prefix_len is_blank s + prefix_len in_line_byte (drop (prefix_len is_blank s) s)) s)))
      → IsTrue (is_gap (take (cond p (1 + prefix_len is_blank s) 0 + prefix_len in_line_byte (drop (cond p (1 + prefix_len is_blank s) 0) (b ∷ s))) (b ∷ s)))
  go true e h ih =
      let n : ℕ = prefix_len is_blank s in
      let m : ℕ = prefix_len in_line_byte (drop n s) in
      let k : 1 + n ≡ suc n = omega arith in
      let j : suc n + m ≡ suc (n + m) = omega arith in
      subst (λ (t : ℕ). IsTrue (is_gap (take (t + prefix_len in_line_byte (drop t (b ∷ s))) (b ∷ s)))) (sym k)
      (subst (λ (t : ℕ). IsTrue (is_gap (take t (b ∷ s)))) (sym j)
      (subst (λ (t : Bool). IsTrue (cond t (is_gap (take (n + m) s)) (cond (b == 35) (in_line (take (n + m) s)) false))) (sym e)
      (ih (subst (λ (t : ℕ). get_or (b ∷ s) t 0 ≡ 35) k h))))
  go false e h ih =
      let m : ℕ = prefix_len in_line_byte (b ∷ s) in
      let k : 0 + m ≡ m = omega arith in
      subst (λ (t : ℕ). IsTrue (is_gap (take t (b ∷ s)))) (sym k) (comment_gap_front b s h)

-- the same, of the lengths
pub blanks_are_gap : (s : List ℕ) (n : ℕ) → n ≡ prefix_len is_blank s → IsTrue (is_gap (take n s))
blanks_are_gap s n e = subst (λ (t : ℕ). IsTrue (is_gap (take t s))) (sym e) (blanks_gap s)

pub comment_is_gap : (s : List ℕ) (n m : ℕ) → n ≡ prefix_len is_blank s → get_or s n 0 ≡ 35 → m ≡ prefix_len in_line_byte (take (length s - n) (drop n s)) → IsTrue (is_gap (take (n + m) s))
comment_is_gap s n m e h k0 =
    let k : m ≡ prefix_len in_line_byte (drop n s) = subst (λ (t : List ℕ). m ≡ prefix_len in_line_byte t) (take_rest s n) k0 in
    let p : ℕ = prefix_len is_blank s in
    let h2 : get_or s p 0 ≡ 35 = subst (λ (t : ℕ). get_or s t 0 ≡ 35) e h in
    let k2 : m ≡ prefix_len in_line_byte (drop p s) = subst (λ (t : ℕ). m ≡ prefix_len in_line_byte (drop t s)) e k in
    subst (λ (t : ℕ). IsTrue (is_gap (take (t + m) s))) (sym e)
    (subst (λ (t : ℕ). IsTrue (is_gap (take (p + t) s))) (sym k2) (comment_gap s h2))

-- where a line ends: at the end of the text, and at the end of a line
pub ends_past : (s : List ℕ) (k : ℕ) → length s ≤ k → IsTrue (ends_line (drop k s))
ends_past s k h = subst (λ (t : List ℕ). IsTrue (ends_line t)) (sym (drop_of_length-le s h)) refl

pub ends_here : (s : List ℕ) (k : ℕ) → k < length s → get_or s k 0 ≡ 10 → IsTrue (ends_line (drop k s))
ends_here s k h e =
    subst (λ (t : List ℕ). IsTrue (ends_line t)) (sym (drop-cons s k 0 h))
    (subst (λ (t : ℕ). IsTrue (ends_line (t ∷ drop (suc k) s))) (sym e) refl)

-- behind a gap
pub ends_behind : (s : List ℕ) (at n : ℕ) → IsTrue (is_gap (take n (drop at s))) → IsTrue (ends_line (drop (at + n) s)) → IsTrue (ends_line (drop at s))
ends_behind s at n g e = ends_gap (drop at s) n g (subst (λ (t : List ℕ). IsTrue (ends_line t)) (sym (drop-drop n at s)) e)

-- the rest of a text, as a slice
pub gap_of : (s : List ℕ) (at n : ℕ) → IsTrue (is_gap (take n (take (length s - at) (drop at s)))) → IsTrue (is_gap (take n (drop at s)))
gap_of s at n g = subst (λ (t : List ℕ). IsTrue (is_gap (take n t))) (take_rest s at) g
