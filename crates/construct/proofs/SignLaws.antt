-- The parts of a claim by its sign, from the claim that the bytes are.
use Rattle.std.proofs.Common.{◌≡◌, ℕ, ◌+◌, ◌-◌, ◌<◌, ◌≤◌, Bool, true, false, ◌||◌, ⊎_elim, T, List, [], ◌∷◌, ◌++◌, length, take, sym, refl, ap, ◌∙◌, subst, inl, inr, append-nil, arith, ltb→lt, leb→le, length-append}
use Rattle.std.proofs.lemmas.List.{take_at}
use Rattle.kinds.specs.Atoms.{row_of, sets_of}
use Rattle.kinds.proofs.AtomLaws.{row_long}
use Rattle.claims.specs.Claims.{C, and1, atom, not1, some}
use Rattle.claims.specs.Fronts.{Front}
use Rattle.claims.specs.Rows.{row, ok}
use Rattle.claims.specs.Signs.{head}
use Rattle.claims.proofs.FrontLaws.{and_front, front_and, front_not, front_some, not_front, same_front, some_front}
use Rattle.claims.proofs.OneClaim.{one_front}
use Rattle.claims.proofs.SignLaws.{sign_is}
use Rattle.kinds.specs.declared.atom.Atom.{Atom}
use Rattle.claims.specs.declared.sign.Sign.{Sign}
use Rattle.claims.specs.declared.sign.Sign.TheVariants.{Not, And, Some as Sign-some}
use Rattle.narrowing.specs.Columns.{size}
use Rattle.narrowing.specs.Mentioned.{mentions, widest}
use Rattle.narrowing.proofs.ColumnsLaws.{size_same}
use Rattle.words.specs.declared.bits.Set.{Set}
use Rattle.construct.specs.WorkOut.{Halves, IsPart, One}

-- a part's bytes are one claim
pub part_one : (k v : ℕ) (s : List ℕ) → IsPart k v s → One k s
part_one k v s p = (p.0, p.1)

-- no part of it mentions more sets than are allowed, whichever claim it is said to be
pub part_widest : (k v : ℕ) (c : C) (s : List ℕ) → IsPart k v s → Front k c s [] → widest k c ≤ v
part_widest k v c s p f = subst (λ d. widest k d ≤ v) (same_front k k p.0 c s [] [] p.1 f).0 p.2

or_swap : (a b : Bool) → (a || b) ≡ (b || a)
or_swap true true = refl
or_swap true false = refl
or_swap false true = refl
or_swap false false = refl

-- of an and, in either order
pub halves_widest : (k v : ℕ) (s longer shorter : List ℕ) → IsPart k v s → (h : Halves k s longer shorter) → (widest k h.one ≤ v) × (widest k h.other ≤ v) × (size k (mentions (and1 h.one h.other)) ≤ v)
halves_widest k v s longer shorter p h = ⊎_elim
    (λ f. (let w = part_widest k v (and1 h.one h.other) s p f in (omega arith, omega arith, omega arith)))
    (λ f. (let w = part_widest k v (and1 h.other h.one) s p f in
    let e = size_same k (mentions (and1 h.one h.other)) (mentions (and1 h.other h.one)) (λ z. or_swap (mentions h.one z) (mentions h.other z)) in
    (omega arith, omega arith, omega arith))) h.either

-- A claim without parts.
pub leaf_front : (k : ℕ) (a : Atom) (c : C) (rest s : List ℕ) → row_of a ++ rest ≡ s → Front k c s [] → (sets_of a ≤ k) × Front k (atom a) s []
leaf_front k a c rest s e f =
    let (g, h) = one_front (atom a) c rest [] (e ∙ sym f.rows) in
    let t : T (ok k (atom a)) = subst (λ z. T (ok k z)) (sym g) f.fine in
    (leb→le (sets_of a) k t, subst (λ z. Front k z s []) (sym g) f)

-- a claim has two bytes at least
row_two : (c : C) → 2 ≤ length (row c)
row_two (atom a) = row_long a
row_two (not1 c) = let h = row_two c in omega arith
row_two (and1 c d) = let h = row_two c in simp length-append (omega arith)
row_two (some x c) = omega arith

front_length : (k : ℕ) (c : C) (s t : List ℕ) → Front k c s t → length s ≡ length (row c) + length t
front_length k c s t f = sym (ap length f.rows) ∙ length-append (row c) t

-- Not: its part, and the same table with what accepts turned.
pub not_part : (k : ℕ) (g : Sign) (s r : List ℕ) → head g ++ r ≡ s → g ≡ Not → One k s → (length r < length s) × ((d : C) × Front k d r [] × Front k (not1 d) s [])
not_part k g s r b i p =
    let e : 4 ∷ r ≡ s = sign_is g Not r s b i in
    let h = ap length e in
    let (d, q, f) = not_front k p.0 r s [] e p.1 in
    (omega arith, (d, f, front_not k d r s [] e f))

-- Some: its part.
pub some_part : (k : ℕ) (g : Sign) (x : Set) (s r : List ℕ) → head g ++ r ≡ s → g ≡ Sign-some x → One k s → (x.0 < k) × (4 ≤ length s) × (length r < length s) × ((d : C) × Front k d r [] × Front k (some x.0 d) s [])
some_part k g x s r b i p =
    let e : 6 ∷ x.0 ∷ r ≡ s = sign_is g (Sign-some x) r s b i in
    let (d, q, l, f) = some_front k x.0 p.0 r s [] e p.1 in
    let a = front_length k d r [] f in
    let t = row_two d in
    let h = ap length e in
    (ltb→lt x.0 k l, omega arith, omega arith, (d, f, front_some k x.0 d r s [] e l f))

-- And: its two parts, the second behind the first.
front_alone : (k : ℕ) (c : C) (s t : List ℕ) → Front k c s t → Front k c (take (length s - length t) s) []
front_alone k c s t f =
    let h = front_length k c s t f in
    let e : take (length s - length t) s ≡ row c = ap (λ z. take (length s - length t) z) (sym f.rows) ∙ take_at (row c) t (length s - length t) (omega arith) in
    record { rows = append-nil (row c) ∙ sym e; fine = f.fine }

module _ (k : ℕ) (r first second : List ℕ) (p : One k (5 ∷ r)) (d : C) (f : Front k d r second) (cut : first ≡ take (length r - length second) r) where
  rest_claim : (e : C) × Front k e second []
  rest_claim = let (d₁, d₂, m, i, g, h) = and_front k p.0 r (5 ∷ r) [] refl p.1 in (d₂, subst (λ z. Front k d₂ z []) (same_front k k d₁ d r m second g f).1 h)

  first_alone : Front k d first []
  first_alone = subst (λ z. Front k d z []) (sym cut) (front_alone k d r second f)

  sizes : (length r ≡ length first + length second) × (2 ≤ length first) × (2 ≤ length second)
  sizes =
      let a = front_length k d r second f in
      let b = front_length k d first [] first_alone in
      let e = front_length k rest_claim.0 second [] rest_claim.1 in
      let u = row_two d in
      let v = row_two rest_claim.0 in
      (omega arith, omega arith, omega arith)

  whole : Front k (and1 d rest_claim.0) (5 ∷ r) []
  whole = front_and k d rest_claim.0 r (5 ∷ r) second [] refl f rest_claim.1

  pub second_longer : length first < length second → Halves k (5 ∷ r) second first
  second_longer h = let (a, b, e) = sizes in record { one = rest_claim.0; other = d; long = rest_claim.1; short = first_alone; either = inr whole; less = omega arith; half = omega arith; bytes = omega arith }

  pub first_longer : length second ≤ length first → Halves k (5 ∷ r) first second
  first_longer h = let (a, b, e) = sizes in record { one = d; other = rest_claim.0; long = first_alone; short = rest_claim.1; either = inl whole; less = omega arith; half = omega arith; bytes = omega arith }

pub and_parts : (k : ℕ) (g : Sign) (s r longer shorter : List ℕ) → head g ++ r ≡ s → g ≡ And → Halves k (5 ∷ r) longer shorter → Halves k s longer shorter
and_parts k g s r longer shorter b i h = subst (λ z. Halves k z longer shorter) (sign_is g And r s b i) h
