-- Marking classes from the accepting ones back: for one column the classes that come to each class,
-- as linked lists, and a queue of the classes that are marked.
use Rattle.std.specs.Prelude.{◌≡◌, ℕ, ◌-◌, ◌<◌, ◌≤◌, Bool, true, ◌⊎◌, List, length, slice_index}
use Rattle.words.specs.Bits.{put_bit}
use Rattle.automata.specs.Subsets.{Completes}
use Rattle.tables.specs.Cells.{entry, accepts}

-- the class to which column a leads, from each class
abbrev pub by_column : List ℕ → ℕ → ℕ → ℕ → ℕ
by_column rows width a q = entry rows width q a

-- e stands for the last of the classes below n that go to r: it is one more than that class, or 0
-- where none goes there
pub record Last (to : ℕ → ℕ) (r n e : ℕ) : Type 0 where
  pub within : e ≤ n
  pub all : (p : ℕ) → p < n → to p ≡ r → p < e
  pub goes : 0 < e → to (e - 1) ≡ r

-- for each of m classes the list of those below n that go to it: its head stands for the last of
-- them, and the link of each for the one before it
pub record Comers (m n : ℕ) (to : ℕ → ℕ) (heads links : List ℕ) : Type 0 where
  pub heads_fit : m ≤ length heads
  pub links_fit : m ≤ length links
  pub heads_last : (r : ℕ) → r < m → Last to r n (slice_index heads r)
  pub links_last : (q : ℕ) → q < n → Last to (to q) q (slice_index links q)

-- the queue up to its tail has those of m classes that are marked, each once
pub record Queued (m : ℕ) (marks queue : List ℕ) (tail : ℕ) : Type 0 where
  pub marks_fit : m ≤ length marks
  pub queue_fits : m ≤ length queue
  pub within : tail ≤ m
  pub classes : (i : ℕ) → i < tail → slice_index queue i < m
  pub marked : (i : ℕ) → i < tail → accepts marks (slice_index queue i) ≡ true
  pub all : (q : ℕ) → q < m → accepts marks q ≡ true → (i : ℕ) × (i < tail) × (slice_index queue i ≡ q)
  pub differ : (i j : ℕ) → i < tail → j < tail → slice_index queue i ≡ slice_index queue j → i ≡ j

-- of m classes those of which Also holds have been marked besides those that were; what stood in
-- the queue still stands there
pub record Grown (m : ℕ) (Also : ℕ → Type 0) (marks queue : List ℕ) (tail : ℕ) (marks' queue' : List ℕ) (tail' : ℕ) : Type 0 where
  pub queued : Queued m marks' queue' tail'
  pub old : (q : ℕ) → q < m → accepts marks q ≡ true → accepts marks' q ≡ true
  pub new : (q : ℕ) → q < m → Also q → accepts marks' q ≡ true
  pub only : (q : ℕ) → q < m → accepts marks' q ≡ true → (accepts marks q ≡ true) ⊎ Also q
  pub longer : tail ≤ tail'
  pub kept : (i : ℕ) → i < tail → slice_index queue' i ≡ slice_index queue i

-- the list of class r has been walked down to e: e stands for a class on it or ends it, and those
-- from e on have been marked
pub record Walked (m : ℕ) (to : ℕ → ℕ) (r e : ℕ) (marks queue : List ℕ) (tail : ℕ) (marks' queue' : List ℕ) (tail' : ℕ) : Type 0 where
  pub within : e ≤ m
  pub goes : 0 < e → to (e - 1) ≡ r
  pub grown : Grown m (λ p. (e ≤ p) × (to p ≡ r)) marks queue tail marks' queue' tail'

-- marking has come to place i of the queue: the accepting classes and those from which a column
-- without or with x leads to a class before place i are marked, and only classes that are completed
pub record Marking (x m : ℕ) (δ : ℕ → ℕ → ℕ) (f : ℕ → Bool) (marks queue : List ℕ) (tail i : ℕ) : Type 0 where
  pub queued : Queued m marks queue tail
  pub within : i ≤ tail
  pub accepting : (q : ℕ) → q < m → f q ≡ true → accepts marks q ≡ true
  pub completed : (q : ℕ) → q < m → accepts marks q ≡ true → Completes x δ f q
  pub closed : (b : Bool) (j q : ℕ) → j < i → q < m → δ q (put_bit x b 0) ≡ slice_index queue j → accepts marks q ≡ true
