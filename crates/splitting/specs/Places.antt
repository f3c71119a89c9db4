-- The parts of m classes in lent words: the classes in `order`, part by part, and the `place` of
-- each there; its `part`; where each part begins and ends, and how far it is marked: of each part
-- the classes before `cut`.
use Rattle.std.specs.Prelude.{◌≡◌, ℕ, ◌-◌, ◌<◌, ◌≤◌, ◌≢◌, List, length, slice_index, ◌⊎◌}

-- every class stands at its place
pub record Inverse (m : ℕ) (order place : List ℕ) : Type 0 where
  pub order_fits : m ≤ length order
  pub place_fits : m ≤ length place
  pub order_below : (i : ℕ) → i < m → slice_index order i < m
  pub place_below : (q : ℕ) → q < m → slice_index place q < m
  pub order_place : (q : ℕ) → q < m → slice_index order (slice_index place q) ≡ q
  pub place_order : (i : ℕ) → i < m → slice_index place (slice_index order i) ≡ i

-- two classes have changed places
pub record Swapped (m p q : ℕ) (place place' : List ℕ) : Type 0 where
  pub here : slice_index place' p ≡ slice_index place q
  pub there : slice_index place' q ≡ slice_index place p
  pub other : (x : ℕ) → x < m → x ≢ p → x ≢ q → slice_index place' x ≡ slice_index place x

-- n parts: the classes of each are those whose places are from its begin to its end, and there are
-- some
pub record Parts (m n : ℕ) (place part begin end : List ℕ) : Type 0 where
  pub part_fits : m ≤ length part
  pub begin_fits : m ≤ length begin
  pub end_fits : m ≤ length end
  pub below : (q : ℕ) → q < m → slice_index part q < n
  pub from : (q : ℕ) → q < m → slice_index begin (slice_index part q) ≤ slice_index place q
  pub to : (q : ℕ) → q < m → slice_index place q < slice_index end (slice_index part q)
  pub within : (c : ℕ) → c < n → slice_index end c ≤ m
  pub some : (c : ℕ) → c < n → slice_index begin c < slice_index end c
  pub own : (c q : ℕ) → c < n → q < m → slice_index begin c ≤ slice_index place q → slice_index place q < slice_index end c → slice_index part q ≡ c

-- a cut lies within its part
pub record Cuts (m n : ℕ) (begin end cut : List ℕ) : Type 0 where
  pub fits : m ≤ length cut
  pub from : (c : ℕ) → c < n → slice_index begin c ≤ slice_index cut c
  pub to : (c : ℕ) → c < n → slice_index cut c ≤ slice_index end c

pub record Arranged (m n : ℕ) (order place part begin end cut : List ℕ) : Type 0 where
  pub few : n ≤ m
  pub inverse : Inverse m order place
  pub parts : Parts m n place part begin end
  pub cuts : Cuts m n begin end cut

-- a class stands before the cut of its part
abbrev pub Marked : List ℕ → List ℕ → List ℕ → ℕ → Type 0
Marked place part cut q = slice_index place q < slice_index cut (slice_index part q)

-- no class is marked
abbrev pub Unmarked : ℕ → List ℕ → List ℕ → Type 0
Unmarked n begin cut = (c : ℕ) → c < n → slice_index cut c ≡ slice_index begin c

-- from place t to the tail of `touched` stand the parts of which a class is marked, each once
pub record Touched (m n : ℕ) (begin cut touched : List ℕ) (t tail : ℕ) : Type 0 where
  pub fits : m ≤ length touched
  pub within : tail ≤ m
  pub parts : (i : ℕ) → t ≤ i → i < tail → slice_index touched i < n
  pub some : (i : ℕ) → t ≤ i → i < tail → slice_index begin (slice_index touched i) < slice_index cut (slice_index touched i)
  pub differ : (i j : ℕ) → t ≤ i → i < tail → t ≤ j → j < tail → slice_index touched i ≡ slice_index touched j → i ≡ j
  pub all : (c : ℕ) → c < n → slice_index begin c < slice_index cut c → (i : ℕ) × (t ≤ i) × (i < tail) × (slice_index touched i ≡ c)

-- the classes of which Also holds have been marked besides those that were
pub record Grown (m n : ℕ) (Also : ℕ → Type 0) (place part begin end cut : List ℕ) (order' place' cut' touched' : List ℕ) (tail' : ℕ) : Type 0 where
  pub arranged : Arranged m n order' place' part begin end cut'
  pub touched : Touched m n begin cut' touched' 0 tail'
  pub old : (q : ℕ) → q < m → Marked place part cut q → Marked place' part cut' q
  pub new : (q : ℕ) → q < m → Also q → Marked place' part cut' q
  pub only : (q : ℕ) → q < m → Marked place' part cut' q → Marked place part cut q ⊎ Also q

-- the list of class r has been walked down to e: e stands for a class on it or ends it, and those
-- from e on have been marked
pub record Walked (m n : ℕ) (to : ℕ → ℕ) (r e : ℕ) (place part begin end cut : List ℕ) (order' place' cut' touched' : List ℕ) (tail' : ℕ) : Type 0 where
  pub below : e ≤ m
  pub goes : 0 < e → to (e - 1) ≡ r
  pub grown : Grown m n (λ p. (e ≤ p) × (to p ≡ r)) place part begin end cut order' place' cut' touched' tail'

-- the first classes of `members` are those of part b
pub record Members (m : ℕ) (part : List ℕ) (b : ℕ) (members : List ℕ) (size : ℕ) : Type 0 where
  pub fits : size ≤ length members
  pub each : (i : ℕ) → i < size → slice_index members i < m
  pub of : (i : ℕ) → i < size → slice_index part (slice_index members i) ≡ b
  pub all : (q : ℕ) → q < m → slice_index part q ≡ b → (i : ℕ) × (i < size) × (slice_index members i ≡ q)
