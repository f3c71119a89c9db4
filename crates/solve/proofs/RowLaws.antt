-- The declared names have their numbers for places in the list of names, so a row gives them what it shows.
use Rattle.std.proofs.Common.{◌≡◌, ℕ, suc, ◌+◌, ◌≤◌, None, List, [], ◌∷◌, ◌++◌, map, length, sym, refl, ap, subst, inl, inr, arith}
use Rattle.words.specs.Words.{Word, bit, sets}
use Rattle.kinds.specs.Relations.{Only}
use Rattle.formulas.specs.declared.name.Name.{Name as Numbered}
use Rattle.formulas.specs.declared.name.Name.TheVariants.{OfPlace, OfGroup}
use Rattle.formulas.specs.Names.{Among}
use Rattle.formulas.proofs.NamesLaws.{name_tells}
use Rattle.formulas.specs.Sets.{lowest}
use Rattle.translation.specs.Settles.{Singles, env_of}
use Rattle.formula_claims.specs.Listed.{position_of, listed}
use Rattle.trees.specs.declared.tree.Name.{Name}
use Rattle.resolve.specs.declared.scope.Kind.{Kind}
use Rattle.resolve.specs.declared.scope.Kind.TheVariants.{Place, Set, Row}
use Rattle.solve.specs.Questions.{other, others, row_or, row_from, row_name}
use Rattle.solve.specs.Answers.{shown, Marked, IsRow}
use Rattle.solve.proofs.TextLaws.{Same, Alike}
use Rattle.solve.proofs.PositionsLaws.{number_of}

-- the name with a number of what is declared
abbrev pub number : Kind → ℕ → Numbered
number Place n = OfPlace n
number Set n = OfGroup n
number Row n = OfGroup n

abbrev pub numbered : ℕ → List (Name × Kind) → List Numbered
numbered n [] = []
numbered n (d ∷ l) = number d.1 n ∷ numbered (suc n) l

-- where no row is declared, all names are those of places and sets
pub plain_names : (n : ℕ) (l : List (Name × Kind)) → row_from n l ≡ None → others n l ++ row_name (row_from n l) ≡ numbered n l
plain_names n [] e = refl
plain_names n (d ∷ l) e = at (plain_names (suc n) l) d.1 e
  where
    at : (row_from (suc n) l ≡ None → others (suc n) l ++ row_name (row_from (suc n) l) ≡ numbered (suc n) l) → (k : Kind) → row_or k n (row_from (suc n) l) ≡ None →
        (other k n ++ others (suc n) l) ++ row_name (row_or k n (row_from (suc n) l)) ≡ number k n ∷ numbered (suc n) l
    at rest Place e = ap (λ m. OfPlace n ∷ m) (rest e)
    at rest Set e = ap (λ m. OfGroup n ∷ m) (rest e)
    at rest Row e = cc

-- each name, numbered from n on, is at the place in l that is its number less b
abbrev pub At : ℕ → List Numbered → ℕ → List (Name × Kind) → Type 0
At b l n [] = Unit {0}
At b l n (d ∷ rest) = (position_of (number d.1 n) l + b ≡ n) × At b l (suc n) rest

number_is : (k : Kind) (n : ℕ) → number_of (number k n) ≡ n
number_is Place n = refl
number_is Set n = refl
number_is Row n = refl

apart : (r s : Kind) (m n : ℕ) → suc m ≤ n → number r m ≡ number s n → ⊥
apart r s m n l e = let q = ap number_of e in let a = number_is r m in let b = number_is s n in omega arith

behind : (r s : Kind) (b n : ℕ) (l : List Numbered) → suc b ≤ n → position_of (number s n) l + suc b ≡ n → position_of (number s n) (number r b ∷ l) + b ≡ n
behind r s b n l le h = elim (name_tells (number r b) (number s n)) [
  | inl q ↦ absurd (apart r s b n le q.1)
  | inr q ↦ rw q.0 (omega arith)
]

at_more : (r : Kind) (b n : ℕ) (l : List Numbered) (rest : List (Name × Kind)) → suc b ≤ n → At (suc b) l n rest → At b (number r b ∷ l) n rest
at_more r b n l [] le h = tt
at_more r b n l (d ∷ rest) le h = (behind r d.1 b n l le h.0, at_more r b (suc n) l rest (omega arith) h.1)

first_at : (s : Kind) (b : ℕ) (l : List Numbered) → position_of (number s b) (number s b ∷ l) + b ≡ b
first_at s b l = elim (name_tells (number s b) (number s b)) [
  | inl q ↦ rw q.0 (omega arith)
  | inr q ↦ absurd (q.1 refl)
]

pub numbered_at : (b : ℕ) (l : List (Name × Kind)) → At b (numbered b l) b l
numbered_at b [] = tt
numbered_at b (d ∷ l) = (first_at d.1 b (numbered (suc b) l), at_more d.1 b (suc b) (numbered (suc b) l) l (omega arith) (numbered_at (suc b) l))

given_alike : (s : Kind) (l : List Numbered) (n : ℕ) (w : Word) → position_of (number s n) l + 0 ≡ n → Same s n (env_of (listed l) w) (shown w)
given_alike Place l n w h = let q : position_of (number Place n) l ≡ n = omega arith in ap (λ x. lowest (map (bit x) w)) q
given_alike Set l n w h = let q : position_of (number Set n) l ≡ n = omega arith in ap (λ x. map (bit x) w) q
given_alike Row l n w h = let q : position_of (number Row n) l ≡ n = omega arith in ap (λ x. map (bit x) w) q

pub shown_alike : (l : List Numbered) (n : ℕ) (rest : List (Name × Kind)) (w : Word) → At 0 l n rest → Alike n rest (env_of (listed l) w) (shown w)
shown_alike l n [] w h = tt
shown_alike l n (d ∷ rest) w h = (given_alike d.1 l n w h.0, shown_alike l (suc n) rest w h.1)

-- a row gives its places one place each
marked : (s : Kind) (l : List Numbered) (n : ℕ) (w : Word) → position_of (number s n) l + 0 ≡ n → (Among (number s n) l) → Singles (listed l) l (sets w) → Marked s n w
marked Place l n w h m q =
    let e : position_of (number Place n) l ≡ n = omega arith in
    subst (λ x. (i : ℕ) × Only (sets w) x i) e (q n m)
marked Set l n w h m q = tt
marked Row l n w h m q = tt

pub is_row : (l : List Numbered) (n : ℕ) (rest : List (Name × Kind)) (w : Word) → At 0 l n rest →
    ((x : Numbered) → Among x (numbered n rest) → Among x l) → Singles (listed l) l (sets w) → IsRow n rest w
is_row l n [] w h m q = tt
is_row l n (d ∷ rest) w h m q = (marked d.1 l n w h.0 (m (number d.1 n) (inl refl)) q, is_row l (suc n) rest w h.1 (λ x k. m x (inr k)) q)

single : (s : Kind) (l : List Numbered) (n x : ℕ) (w : Word) → position_of (number s n) l + 0 ≡ n → OfPlace x ≡ number s n → Marked s n w → (i : ℕ) × Only (sets w) (listed l (OfPlace x)) i
single Place l n x w h e m =
    let q : n ≡ position_of (number Place n) l = omega arith in
    subst (λ y. (i : ℕ) × Only (sets w) (position_of y l) i) (sym e) (subst (λ y. (i : ℕ) × Only (sets w) y i) q m)
single Set l n x w h e m = absurd (let z : ◌≡◌ {A = ℕ} 0 1 = cc in omega arith)
single Row l n x w h e m = absurd (let z : ◌≡◌ {A = ℕ} 0 1 = cc in omega arith)

pub singles_of : (l : List Numbered) (n : ℕ) (rest : List (Name × Kind)) (w : Word) → At 0 l n rest → IsRow n rest w →
    (x : ℕ) → Among (OfPlace x) (numbered n rest) → (i : ℕ) × Only (sets w) (listed l (OfPlace x)) i
singles_of l n [] w h r x m = absurd m
singles_of l n (d ∷ rest) w h r x (inl e) = single d.1 l n x w h.0 e r.0
singles_of l n (d ∷ rest) w h r x (inr m) = singles_of l (suc n) rest w h.1 r.1 x m

pub numbered_length : (n : ℕ) (l : List (Name × Kind)) → length (numbered n l) ≡ length l
numbered_length n [] = refl
numbered_length n (d ∷ l) = let q = numbered_length (suc n) l in omega arith
