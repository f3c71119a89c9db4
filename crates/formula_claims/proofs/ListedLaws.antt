-- Names by their places in a list: those listed have a place, and differ if their places do.
use Rattle.std.proofs.Common.{◌≡◌, ℕ, zero, suc, ◌<◌, ◌≤◌, List, [], ◌∷◌, length, drop, get_or, refl, sym, ◌∙◌, ◌⊎◌, inl, inr, arith}
use Rattle.formulas.specs.declared.name.Name.{Name}
use Rattle.formulas.specs.Names.{Among}
use Rattle.formulas.proofs.NamesLaws.{name_tells}
use Rattle.formula_claims.specs.Listed.{position_of}

pub listed_among : (x : Name) (l : List Name) → position_of x l < length l → Among x l
listed_among x [] h = let z : ⊥ = omega arith in z
listed_among x (y ∷ l) h = elim (name_tells y x) [
  | inl q ↦ inl (sym q.1)
  | inr q ↦ let g = rw q.0 at h in inr (listed_among x l (omega arith))
]

pub among_listed : (x : Name) (l : List Name) → Among x l → position_of x l < length l
among_listed x [] h = absurd h
among_listed x (y ∷ l) h = elim (name_tells y x) [
  | inl q ↦ rw q.0 (omega arith)
  | inr q ↦ elim h [ inl e ↦ absurd (q.1 (sym e)) | inr g ↦ let r = among_listed x l g in rw q.0 (omega arith) ]
]

pub position_le : (x : Name) (l : List Name) → position_of x l ≤ length l
position_le x [] = omega arith
position_le x (y ∷ l) = elim (name_tells y x) [ inl q ↦ rw q.0 (omega arith) | inr q ↦ let r = position_le x l in rw q.0 (omega arith) ]

pub position_apart : (x y : Name) (l : List Name) → Among x l → Among y l → position_of x l ≡ position_of y l → x ≡ y
position_apart x y [] h g e = absurd h
position_apart x y (z ∷ l) h g e = elim (name_tells z x) [
  | inl p ↦ elim (name_tells z y) [
    | inl q ↦ sym p.1 ∙ q.1
    | inr q ↦ let n : 0 ≡ suc (position_of y l) = rw (p.0, q.0) at e in absurd (omega arith)
  ]
  | inr p ↦ elim (name_tells z y) [
    | inl q ↦ let n : suc (position_of x l) ≡ 0 = rw (p.0, q.0) at e in absurd (omega arith)
    | inr q ↦ let n : suc (position_of x l) ≡ suc (position_of y l) = rw (p.0, q.0) at e in
        elim h [
          | inl a ↦ absurd (p.1 (sym a))
          | inr a ↦ elim g [ inl b ↦ absurd (q.1 (sym b)) | inr b ↦ position_apart x y l a b (omega arith) ]
        ]
  ]
]

pub among_at : (l : List Name) (i : ℕ) (d : Name) → i < length l → Among (get_or l i d) l
among_at [] i d h = let z : ⊥ = omega arith in z
among_at (y ∷ l) zero d h = inl refl
among_at (y ∷ l) (suc i) d h = inr (among_at l i d (omega arith))

-- one name more is passed
pub among_drop : (x : Name) (l : List Name) (i : ℕ) (d : Name) → i < length l → Among x (drop i l) → (x ≡ get_or l i d) ⊎ Among x (drop (suc i) l)
among_drop x [] i d h g = let z : ⊥ = omega arith in absurd z
among_drop x (y ∷ l) zero d h g = g
among_drop x (y ∷ l) (suc i) d h g = among_drop x l i d (omega arith) g
