-- One more letter of a path, and one more transition.
use Rattle.std.proofs.Common.{◌≡◌, ℕ, ◌+◌, ◌*◌, ◌/◌, ◌%◌, ◌^◌, ◌<◌, Bool, true, false, not, ◌&&◌, cond, List, [], ◌∷◌, ◌++◌, length, get_or, map, filter, ◌-◌, sym, refl, ap, ◌∙◌, subst, append_assoc, pow-suc, add-one, arith}
use Rattle.std.proofs.Math.Bool.{and-true}
use Rattle.std.proofs.Math.Nat.{mod-lt}
use Rattle.std.proofs.lemmas.Bool.{eqb-true, eqb-false}
use Rattle.std.proofs.lemmas.List.{map-append}
use Rattle.std.proofs.lemmas.List.Elements.{filter-append}
use Rattle.std.proofs.lemmas.Nat.{mod-pow-add, pow_pos}
use Rattle.words.specs.Words.{bit}
use Rattle.transitions.specs.Patterns.{letter_fits, fits, leads, rest, added}
use Rattle.transitions.specs.declared.pattern.Letter.{Letter}
use Rattle.transitions.specs.declared.pattern.Letter.TheVariants.{Zero, One, Any}
use Rattle.transitions.specs.declared.pattern.Transition.{Transition}

and_assoc : (a b c : Bool) → (a && (b && c)) ≡ ((a && b) && c)
and_assoc true b c = refl
and_assoc false b c = refl

fits_snoc : (p : List Letter) (l : Letter) (a : ℕ) → fits (p ++ l ∷ []) a ≡ (fits p a && letter_fits l (bit 0 (rest p a)))
fits_snoc [] l a = and-true (letter_fits l (bit 0 a))
fits_snoc (q ∷ p) l a = ap (λ b. letter_fits q (bit 0 a) && b) (fits_snoc p l (a / 2)) ∙ and_assoc (letter_fits q (bit 0 a)) (fits p (a / 2)) (letter_fits l (bit 0 (rest p (a / 2))))

rest_snoc : (p : List Letter) (l : Letter) (a : ℕ) → rest (p ++ l ∷ []) a ≡ rest p a / 2
rest_snoc [] l a = refl
rest_snoc (q ∷ p) l a = rest_snoc p l (a / 2)

-- where a transition is added, columns that it fits lead there as well
pub leads_push : (ts : List Transition) (t : Transition) (a : ℕ) → leads (ts ++ t ∷ []) a ≡ leads ts a ++ cond (fits t.pattern.items a) (t.to ∷ []) []
leads_push ts t a =
    ap (map (λ s. s.to)) (filter-append (λ s. fits s.pattern.items a) ts (t ∷ []))
    ∙ map-append (λ s. s.to) (filter (λ s. fits s.pattern.items a) ts) (filter (λ s. fits s.pattern.items a) (t ∷ []))
    ∙ ap (λ xs. leads ts a ++ xs) (one (fits t.pattern.items a))
  where
    one : (b : Bool) → map (λ s. s.to) (cond b (t ∷ []) []) ≡ cond b (t.to ∷ []) []
    one true = refl
    one false = refl

-- no set is left
pub added_leaf : (p : List Letter) (row : List ℕ) (a : ℕ) → added p row 0 a ≡ cond (fits p a) (get_or row 0 0 ∷ []) []
added_leaf p row a = let e : rest p a % 1 ≡ 0 = omega arith in ap (λ i. cond (fits p a) (get_or row i 0 ∷ []) []) e

bit_low : (r : ℕ) → bit 0 r ≡ false → r % 2 ≡ 0
bit_low r e = let n = eqb-false (r % 2) 1 e in omega (arith, n)

module _ (p : List Letter) (row low high : List ℕ) (s n : ℕ) (e : n + 1 ≡ s) (evens : (j : ℕ) → j < 2 ^ n → get_or low j 0 ≡ get_or row (2 * j) 0) (odds : (j : ℕ) → j < 2 ^ n → get_or high j 0 ≡ get_or row (2 * j + 1) 0) where
  -- an entry of the row by what is left behind its first set
  place : (r : ℕ) → r % 2 ^ s ≡ 2 * (r / 2 % 2 ^ n) + r % 2
  place r = let h = mod-pow-add r n 1 in subst (λ m. r % 2 ^ m ≡ 2 * (r / 2 % 2 ^ n) + r % 2) e (omega (arith, h))

  below : (r : ℕ) → r / 2 % 2 ^ n < 2 ^ n
  below r = mod-lt (r / 2) (pow_pos n)

  entry_low : (r : ℕ) → bit 0 r ≡ false → get_or low (r / 2 % 2 ^ n) 0 ≡ get_or row (r % 2 ^ s) 0
  entry_low r b = evens (r / 2 % 2 ^ n) (below r) ∙ ap (λ i. get_or row i 0) (let z = bit_low r b in let h = place r in omega (arith, h, z))

  entry_high : (r : ℕ) → bit 0 r ≡ true → get_or high (r / 2 % 2 ^ n) 0 ≡ get_or row (r % 2 ^ s) 0
  entry_high r b = odds (r / 2 % 2 ^ n) (below r) ∙ ap (λ i. get_or row i 0) (let z = eqb-true (r % 2) 1 b in let h = place r in omega (arith, h, z))

  -- the set does not matter
  pub added_any : low ≡ high → (a : ℕ) → added (p ++ Any ∷ []) low n a ≡ added p row s a
  added_any same a =
      let r = rest p a in
      rw (fits_snoc p Any a, rest_snoc p Any a, and-true (fits p a)) (ap (λ x. cond (fits p a) (x ∷ []) []) (by (bit 0 r) refl))
    where
      by : (b : Bool) → bit 0 (rest p a) ≡ b → get_or low (rest p a / 2 % 2 ^ n) 0 ≡ get_or row (rest p a % 2 ^ s) 0
      by false z = entry_low (rest p a) z
      by true z = ap (λ xs. get_or xs (rest p a / 2 % 2 ^ n) 0) same ∙ entry_high (rest p a) z

  -- without the set, and with it
  pub added_both : (a : ℕ) → added (p ++ Zero ∷ []) low n a ++ added (p ++ One ∷ []) high n a ≡ added p row s a
  added_both a =
      rw (fits_snoc p Zero a, rest_snoc p Zero a, fits_snoc p One a, rest_snoc p One a) (by (fits p a) (bit 0 (rest p a)) (entry_low (rest p a)) (entry_high (rest p a)))
    where
      by : (f b : Bool) → {x y z : ℕ} → (b ≡ false → x ≡ z) → (b ≡ true → y ≡ z) → cond (f && not b) (x ∷ []) [] ++ cond (f && b) (y ∷ []) [] ≡ cond f (z ∷ []) []
      by true true l h = ap (λ x. x ∷ []) (h refl)
      by true false l h = ap (λ x. x ∷ []) (l refl)
      by false b l h = refl

half : (s n : ℕ) → n + 1 ≡ s → 2 ^ s / 2 ≡ 2 ^ n
half s n e = let h : 2 ^ s ≡ 2 ^ n * 2 = subst (λ m. 2 ^ m ≡ 2 ^ n * 2) (sym (add-one n) ∙ e) (pow-suc 2 n) in omega (arith, h)

-- each half of a row over s sets is a row over one set less
pub halved : (row : List ℕ) (s h : ℕ) → 0 < s → length row ≡ 2 ^ s → h ≡ length row / 2 → h ≡ 2 ^ (s - 1)
halved row s h o l e = let p = half s (s - 1) (omega arith) in omega (arith, p, l, e)

module _ (p : List Letter) (row low high : List ℕ) (s : ℕ) (o : 0 < s) (l : length row ≡ 2 ^ s) (evens : (j : ℕ) → j < length row / 2 → get_or low j 0 ≡ get_or row (2 * j) 0) (odds : (j : ℕ) → j < length row / 2 → get_or high j 0 ≡ get_or row (2 * j + 1) 0) where
  size : length row / 2 ≡ 2 ^ (s - 1)
  size = halved row s (length row / 2) o l refl

  evens' : (j : ℕ) → j < 2 ^ (s - 1) → get_or low j 0 ≡ get_or row (2 * j) 0
  evens' j h = evens j (omega (arith, size))

  odds' : (j : ℕ) → j < 2 ^ (s - 1) → get_or high j 0 ≡ get_or row (2 * j + 1) 0
  odds' j h = odds j (omega (arith, size))

  -- what is added behind a letter that leaves the set open, where both halves lead the same
  pub any_step : (q : List Letter) (given : List ℕ) → q ≡ p ++ Any ∷ [] → given ≡ low → low ≡ high → (a : ℕ) → added q given (s - 1) a ≡ added p row s a
  any_step q given eq eg same a = ap (λ x. added x given (s - 1) a) eq ∙ ap (λ x. added (p ++ Any ∷ []) x (s - 1) a) eg ∙ added_any p row low high s (s - 1) (omega arith) evens' odds' same a

  -- what is added by both halves, one after the other
  pub both_step : (q r : List Letter) (given next : List ℕ) → q ≡ p ++ Zero ∷ [] → r ≡ p ++ One ∷ [] → given ≡ low → next ≡ high → (before between after : List ℕ) (a : ℕ) → between ≡ before ++ added q given (s - 1) a → after ≡ between ++ added r next (s - 1) a → after ≡ before ++ added p row s a
  both_step q r given next eq er eg en before between after a eb ea =
      ea
      ∙ ap (λ x. x ++ added r next (s - 1) a) eb
      ∙ append_assoc before (added q given (s - 1) a) (added r next (s - 1) a)
      ∙ ap (λ x. before ++ (added x given (s - 1) a ++ added r next (s - 1) a)) eq
      ∙ ap (λ x. before ++ (added (p ++ Zero ∷ []) x (s - 1) a ++ added r next (s - 1) a)) eg
      ∙ ap (λ x. before ++ (added (p ++ Zero ∷ []) low (s - 1) a ++ added x next (s - 1) a)) er
      ∙ ap (λ x. before ++ (added (p ++ Zero ∷ []) low (s - 1) a ++ added (p ++ One ∷ []) x (s - 1) a)) en
      ∙ ap (λ x. before ++ x) (added_both p row low high s (s - 1) (omega arith) evens' odds' a)
