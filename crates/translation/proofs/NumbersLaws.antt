-- The lowest number that is not in a list.
use Rattle.std.proofs.Common.{◌≡◌, ℕ, zero, suc, ◌+◌, ◌<◌, ◌≤◌, Bool, true, false, cond, eqb, List, [], ◌∷◌, length, sym, refl, ap, ◌∙◌, subst, inl, inr, arith}
use mathlib.Core.Bool.{false≢true}
use native.Mathlib.Decide.{dec_lt}
use Rattle.std.proofs.lemmas.Bool.Decides.{eqb_tells}
use Rattle.formulas.specs.declared.name.Name.{Name}
use Rattle.formulas.specs.Names.{Among}
use Rattle.automata.proofs.Counting.{pigeon}
use Rattle.translation.specs.Numbers.{Numbering, numbers, among, free_from, fresh, LowestFree}

pub among_number : (ρ : Numbering) (x : Name) (l : List Name) → Among x l → Among (ρ x) (numbers ρ l)
among_number ρ x [] h = absurd h
among_number ρ x (y ∷ l) (inl e) = inl (ap ρ e)
among_number ρ x (y ∷ l) (inr h) = inr (among_number ρ x l h)

-- numbers of part of the names
pub among_part : (ρ : Numbering) (n : ℕ) (l m : List Name) → ((x : Name) → Among x l → Among x m) → Among n (numbers ρ l) → Among n (numbers ρ m)
among_part ρ n [] m f h = absurd h
among_part ρ n (y ∷ l) m f (inl e) = subst (λ z. Among z (numbers ρ m)) (sym e) (among_number ρ y m (f y (inl refl)))
among_part ρ n (y ∷ l) m f (inr h) = among_part ρ n l m (λ x g. f x (inr g)) h

among_has : (n : ℕ) (l : List ℕ) → Among n l → among n l ≡ true
among_has n [] h = absurd h
among_has n (y ∷ l) (inl e) = elim (eqb_tells n y) [ inl q ↦ rw q.0 refl | inr q ↦ absurd (q.1 e) ]
among_has n (y ∷ l) (inr h) = elim (eqb_tells n y) [ inl q ↦ rw q.0 refl | inr q ↦ rw q.0 (among_has n l h) ]

-- Each number of the list stands at a place of its own in it, so it has no more of them than places.
abbrev index : ℕ → List ℕ → ℕ
index n [] = 0
index n (y ∷ l) = cond (eqb n y) 0 (suc (index n l))

index_below : (n : ℕ) (l : List ℕ) → among n l ≡ true → index n l < length l
index_below n [] h = absurd (false≢true h)
index_below n (y ∷ l) h = elim (eqb_tells n y) [ inl q ↦ rw q.0 (omega arith) | inr q ↦ let r = index_below n l (rw q.0 at h) in rw q.0 (omega arith) ]

index_apart : (i j : ℕ) (l : List ℕ) → among i l ≡ true → among j l ≡ true → index i l ≡ index j l → i ≡ j
index_apart i j [] h g e = absurd (false≢true h)
index_apart i j (y ∷ l) h g e = elim (eqb_tells i y) [
  | inl p ↦ elim (eqb_tells j y) [
    | inl q ↦ p.1 ∙ sym q.1
    | inr q ↦ let z : 0 ≡ suc (index j l) = rw (p.0, q.0) at e in absurd (omega arith)
  ]
  | inr p ↦ elim (eqb_tells j y) [
    | inl q ↦ let z : suc (index i l) ≡ 0 = rw (p.0, q.0) at e in absurd (omega arith)
    | inr q ↦ let z : suc (index i l) ≡ suc (index j l) = rw (p.0, q.0) at e in index_apart i j l (rw p.0 at h) (rw q.0 at g) (omega arith)
  ]
]

numbers_below : (n : ℕ) (l : List ℕ) → ((j : ℕ) → j < n → among j l ≡ true) → n ≤ length l
numbers_below n l h = pigeon n (length l) (λ j. index j l) (λ j k. index_below j l (h j k)) (λ i j k g e. index_apart i j l (h i k) (h j g) e)

one_more : (n : ℕ) (l : List ℕ) → ((j : ℕ) → j < n → among j l ≡ true) → among n l ≡ true → (j : ℕ) → j < suc n → among j l ≡ true
one_more n l h g j k = elim (eqb_tells j n) [ inl q ↦ subst (λ z. among z l ≡ true) (sym q.1) g | inr q ↦ h j (let d = q.1 in omega arith) ]

free_from_free : (f n : ℕ) (l : List ℕ) → n + f ≡ length l → ((j : ℕ) → j < n → among j l ≡ true) → Among (free_from f n l) l → ⊥
free_from_free zero n l e h g = let r = numbers_below (suc n) l (one_more n l h (among_has n l g)) in omega arith
free_from_free (suc f) n l e h g = at (λ q. free_from_free f (suc n) l (omega arith) (one_more n l h q)) (among n l) refl g
  where
    at : (among n l ≡ true → Among (free_from f (suc n) l) l → ⊥) → (b : Bool) → among n l ≡ b → Among (cond b (free_from f (suc n) l) n) l → ⊥
    at r true q g = r q g
    at r false q g = false≢true (sym q ∙ among_has n l g)

pub fresh_free : (l : List ℕ) → Among (fresh l) l → ⊥
unfolding fresh
fresh_free l h = free_from_free (length l) 0 l (omega arith) (λ j k. (let z : ⊥ = omega arith in absurd z)) h

-- and there is no lower one
from_lowest : (f n : ℕ) (l : List ℕ) (j : ℕ) → n ≤ j → j < free_from f n l → among j l ≡ true
from_lowest zero n l j h g = let z : ⊥ = omega arith in absurd z
from_lowest (suc f) n l j h g = at (from_lowest f (suc n) l j) (among n l) refl g
  where
    at : (suc n ≤ j → j < free_from f (suc n) l → among j l ≡ true) → (b : Bool) → among n l ≡ b → j < cond b (free_from f (suc n) l) n → among j l ≡ true
    at r true q k = elim (eqb_tells n j) [ inl p ↦ subst (λ z. among z l ≡ true) p.1 q | inr p ↦ r (omega (arith, p.1)) k ]
    at r false q k = let z : ⊥ = omega arith in absurd z

pub fresh_lowest : (l : List ℕ) (j : ℕ) → j < fresh l → among j l ≡ true
unfolding fresh
fresh_lowest l j g = from_lowest (length l) 0 l j (omega arith) g

-- so it is known by its marks
has_among : (n : ℕ) (l : List ℕ) → among n l ≡ true → Among n l
has_among n [] h = absurd (false≢true h)
has_among n (y ∷ l) h = elim (eqb_tells n y) [ inl q ↦ inl q.1 | inr q ↦ inr (has_among n l (rw q.0 at h)) ]

pub fresh_is : (l : List ℕ) (n : ℕ) → among n l ≡ false → ((j : ℕ) → j < n → among j l ≡ true) → fresh l ≡ n
fresh_is l n e h = elim (dec_lt n (fresh l)) [
  | yes g ↦ absurd (false≢true (sym e ∙ fresh_lowest l n g))
  | no g ↦ elim (dec_lt (fresh l) n) [ yes k ↦ absurd (fresh_free l (has_among (fresh l) l (h (fresh l) k))) | no k ↦ omega arith ]
]

-- and if all numbers below the list's length are in it, it is that length
pub fresh_full : (l : List ℕ) → ((j : ℕ) → j < length l → among j l ≡ true) → fresh l ≡ length l
fresh_full l h = fresh_is l (length l) (at (among (length l) l) refl) h
  where
    at : (b : Bool) → among (length l) l ≡ b → among (length l) l ≡ false
    at true q = let r = numbers_below (suc (length l)) l (one_more (length l) l h q) in absurd (omega arith)
    at false q = q

pub lowest_free : LowestFree
lowest_free l = (fresh_free l, λ j h. has_among j l (fresh_lowest l j h))
