-- Names that differ stand at their places in a list; the declared names and the row differ.
use Rattle.std.proofs.Common.{◌≡◌, ℕ, zero, suc, ◌+◌, ◌<◌, ◌≤◌, List, [], ◌∷◌, ◌++◌, length, inl, inr, refl, sym, ap, ◌∙◌, arith}
use Rattle.formulas.specs.declared.name.Name.{Name as Numbered}
use Rattle.formulas.specs.declared.name.Name.TheVariants.{OfPlace, OfGroup}
use Rattle.formulas.specs.Names.{Among}
use Rattle.formulas.proofs.NamesLaws.{name_tells}
use Rattle.formula_claims.specs.Listed.{position_of}
use Rattle.trees.specs.declared.tree.Name.{Name}
use Rattle.resolve.specs.declared.scope.Kind.{Kind}
use Rattle.resolve.specs.declared.scope.Kind.TheVariants.{Place, Set, Row}
use Rattle.solve.specs.Questions.{other, others, row_or, row_from, row_name}

-- x is none of the list
abbrev pub NoneOf : Numbered → List Numbered → Type 0
NoneOf x [] = Unit {0}
NoneOf x (y ∷ l) = (x ≡ y → ⊥) × NoneOf x l

abbrev pub Distinct : List Numbered → Type 0
Distinct [] = Unit {0}
Distinct (x ∷ l) = NoneOf x l × Distinct l

-- the names of the list stand in l from place p on
abbrev pub StandAt : List Numbered → ℕ → List Numbered → Type 0
StandAt l p [] = Unit {0}
StandAt l p (x ∷ xs) = (position_of x l ≡ p) × StandAt l (suc p) xs

first_place : (x : Numbered) (l : List Numbered) → position_of x (x ∷ l) ≡ 0
first_place x l = elim (name_tells x x) [ inl q ↦ rw q.0 refl | inr q ↦ absurd (q.1 refl) ]

one_further : (x y : Numbered) (l : List Numbered) (p : ℕ) → (y ≡ x → ⊥) → position_of y l ≡ p → position_of y (x ∷ l) ≡ suc p
one_further x y l p differ e = elim (name_tells x y) [ inl q ↦ absurd (differ (sym q.1)) | inr q ↦ rw q.0 (ap suc e) ]

all_further : (x : Numbered) (l xs : List Numbered) (p : ℕ) → NoneOf x xs → StandAt l p xs → StandAt (x ∷ l) (suc p) xs
all_further x l [] p n s = tt
all_further x l (y ∷ xs) p n s = (one_further x y l p (λ e. n.0 (sym e)) s.0, all_further x l xs (suc p) n.1 s.1)

pub stand_at : (l : List Numbered) → Distinct l → StandAt l 0 l
stand_at [] d = tt
stand_at (x ∷ l) d = (first_place x l, all_further x l l 0 d.0 (stand_at l d.1))

-- the name at place j of the front of a list
pub name_at : (l xs rest : List Numbered) (p j : ℕ) → StandAt l p (xs ++ rest) → j < length xs → (x : Numbered) × Among x xs × (position_of x l ≡ p + j)
name_at l [] rest p j s h = let z : ⊥ = omega arith in absurd z
name_at l (x ∷ xs) rest p zero s h = (x, inl refl, s.0 ∙ (let e : p ≡ p + 0 = omega arith in e))
name_at l (x ∷ xs) rest p (suc j) s h = let (y, a, e) = name_at l xs rest (suc p) j s.1 (omega arith) in (y, inr a, e ∙ (let f : suc p + j ≡ p + suc j = omega arith in f))

-- the name behind the front of a list
pub name_behind : (l xs : List Numbered) (y : Numbered) (p : ℕ) → StandAt l p (xs ++ (y ∷ [])) → position_of y l ≡ p + length xs
name_behind l [] y p s = s.0 ∙ (let e : p ≡ p + 0 = omega arith in e)
name_behind l (x ∷ xs) y p s = name_behind l xs y (suc p) s.1 ∙ (let e : suc p + length xs ≡ p + suc (length xs) = omega arith in e)

-- numbers from n on
abbrev pub number_of : Numbered → ℕ
number_of (OfPlace n) = n
number_of (OfGroup n) = n

abbrev From : ℕ → List Numbered → Type 0
From n [] = Unit {0}
From n (x ∷ l) = (n ≤ number_of x) × From n l

from_lower : (n : ℕ) (l : List Numbered) → From (suc n) l → From n l
from_lower n [] h = tt
from_lower n (x ∷ l) h = (let z = h.0 in omega arith, from_lower n l h.1)

from_append : (n : ℕ) (k l : List Numbered) → From n k → From n l → From n (k ++ l)
from_append n [] l g h = h
from_append n (x ∷ k) l g h = (g.0, from_append n k l g.1 h)

from_none : (x : Numbered) (l : List Numbered) → From (suc (number_of x)) l → NoneOf x l
from_none x [] h = tt
from_none x (y ∷ l) h = (λ e. (let z = h.0 in let q = ap number_of e in omega arith), from_none x l h.1)

-- the declared places and sets, numbered from n on
from_kind : (n : ℕ) (k : Kind) (l : List Numbered) → From (suc n) l → From n (other k n ++ l)
from_kind n Place l h = (omega arith, from_lower n l h)
from_kind n Set l h = (omega arith, from_lower n l h)
from_kind n Row l h = from_lower n l h

from_others : (n : ℕ) (l : List (Name × Kind)) → From n (others n l)
from_others n [] = tt
from_others n (d ∷ l) = from_kind n d.1 (others (suc n) l) (from_others (suc n) l)

distinct_kind : (n : ℕ) (k : Kind) (l : List Numbered) → From (suc n) l → Distinct l → Distinct (other k n ++ l)
distinct_kind n Place l h d = (from_none (OfPlace n) l h, d)
distinct_kind n Set l h d = (from_none (OfGroup n) l h, d)
distinct_kind n Row l h d = d

distinct_others : (n : ℕ) (l : List (Name × Kind)) → Distinct (others n l)
distinct_others n [] = tt
distinct_others n (d ∷ l) = distinct_kind n d.1 (others (suc n) l) (from_others (suc n) l) (distinct_others (suc n) l)

none_end : (x y : Numbered) (l : List Numbered) → (x ≡ y → ⊥) → NoneOf x l → NoneOf x (l ++ (y ∷ []))
none_end x y [] d n = (d, tt)
none_end x y (z ∷ l) d n = (n.0, none_end x y l d n.1)

distinct_end : (n : ℕ) (l : List Numbered) → From (suc n) l → Distinct l → Distinct (l ++ (OfGroup n ∷ []))
distinct_end n [] h d = (tt, tt)
distinct_end n (x ∷ l) h d = (none_end x (OfGroup n) l (λ e. (let z = h.0 in let q = ap number_of e in omega arith)) d.0, distinct_end n l h.1 d.1)

-- and the row behind them
from_names : (n : ℕ) (l : List (Name × Kind)) → From n (others n l ++ row_name (row_from n l))
from_names n [] = tt
from_names n (d ∷ l) = at (from_names (suc n) l) d.1
  where
    at : From (suc n) (others (suc n) l ++ row_name (row_from (suc n) l)) → (k : Kind) → From n ((other k n ++ others (suc n) l) ++ row_name (row_or k n (row_from (suc n) l)))
    at h Place = (omega arith, from_lower n (others (suc n) l ++ row_name (row_from (suc n) l)) h)
    at h Set = (omega arith, from_lower n (others (suc n) l ++ row_name (row_from (suc n) l)) h)
    at h Row = from_append n (others (suc n) l) (OfGroup n ∷ []) (from_lower n (others (suc n) l) (from_others (suc n) l)) (omega arith, tt)

pub distinct_names : (n : ℕ) (l : List (Name × Kind)) → Distinct (others n l ++ row_name (row_from n l))
distinct_names n [] = tt
distinct_names n (d ∷ l) = at (distinct_names (suc n) l) d.1
  where
    at : Distinct (others (suc n) l ++ row_name (row_from (suc n) l)) → (k : Kind) → Distinct ((other k n ++ others (suc n) l) ++ row_name (row_or k n (row_from (suc n) l)))
    at h Place = (from_none (OfPlace n) (others (suc n) l ++ row_name (row_from (suc n) l)) (from_names (suc n) l), h)
    at h Set = (from_none (OfGroup n) (others (suc n) l ++ row_name (row_from (suc n) l)) (from_names (suc n) l), h)
    at h Row = distinct_end n (others (suc n) l) (from_others (suc n) l) (distinct_others (suc n) l)
