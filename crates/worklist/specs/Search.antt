-- What a search looks for, what it finds in a memory of things, and what its table says.
use Rattle.std.specs.Prelude.{◌≡◌, ℕ, ◌+◌, ◌^◌, ◌<◌, ◌≤◌, Bool, ◌⊎◌, ◌≢◌}
use Rattle.automata.specs.Search.{Explored, TooMany}
use Rattle.tables.specs.Cells.{entry, accepts}
use Rattle.tables.specs.Search.{Searching}
use Rattle.tables.specs.declared.sheet.Sheet.{Sheet}

-- an automaton over things of any kind: where words begin, where a column of so many sets leads,
-- and which things accept
pub record Automaton (S : Type 0) : Type 0 where
  pub sets : ℕ
  pub start : S
  pub step : S → ℕ → S
  pub accepts : S → Bool

-- a memory of the things that are found, with room for so many: thing i is `at i`, and the first m
-- are numbered where `Holds m`
pub record Memory (S : Type 0) : Type 1 where
  pub automaton : Automaton S
  pub room : ℕ
  pub at : ℕ → S
  pub Holds : ℕ → Type 0

-- the start alone is numbered
pub record Begun {S : Type 0} (x y : Memory S) : Type 0 where
  pub automaton : y.automaton ≡ x.automaton
  pub room : y.room ≡ x.room
  pub holds : y.Holds 1
  pub first : y.at 0 ≡ x.automaton.start

-- m things are numbered, there is room for one more, and column a of thing i is to be followed
pub record Ready {S : Type 0} (x : Memory S) (m i a : ℕ) : Type 0 where
  pub holds : x.Holds m
  pub room : m < x.room
  pub small : m < 2 ^ 32
  pub row : i < m
  pub column : a < 2 ^ x.automaton.sets

-- m things are numbered, and thing i is one of them
pub record Inside {S : Type 0} (x : Memory S) (m i : ℕ) : Type 0 where
  pub holds : x.Holds m
  pub room : m ≤ x.room
  pub row : i < m

-- that the thing with number j was among the first m, or is new; n are numbered then
abbrev pub Grown : ℕ → ℕ → ℕ → Type 0
Grown m j n = ((j < m) × (n ≡ m)) ⊎ ((j ≡ m) × (n ≡ m + 1))

-- column a of thing i leads to thing j, among the first m or new; the others keep their numbers
pub record Followed {S : Type 0} (x y : Memory S) (m i a j : ℕ) : Type 0 where
  pub automaton : y.automaton ≡ x.automaton
  pub room : y.room ≡ x.room
  pub holds : (n : ℕ) → Grown m j n → y.Holds n
  pub kept : (p : ℕ) → p < m → y.at p ≡ x.at p
  pub here : y.at j ≡ x.automaton.step (x.at i) a
  pub old_or_new : (j < m) ⊎ ((j ≡ m) × ((p : ℕ) → p < m → x.at p ≢ x.automaton.step (x.at i) a))

-- m things are found, and their table is written up to row i, column a
pub record Going {S : Type 0} (x : Memory S) (t : Sheet) (m i a : ℕ) : Type 0 where
  pub sets : x.automaton.sets ≡ t.shape.sets
  pub room : t.shape.most < x.room
  pub holds : x.Holds m
  pub few : m ≤ t.shape.most
  pub searching : Searching x.automaton.sets x.automaton.step x.automaton.start m x.at t.rows.now t.shape.width i a

-- the same is looked for, and written into the same sheet
pub record Same {S : Type 0} (x y : Memory S) (t u : Sheet) : Type 0 where
  pub automaton : y.automaton ≡ x.automaton
  pub shape : u.shape ≡ t.shape
  pub rows : u.rows.ghost_name ≡ t.rows.ghost_name
  pub accept : u.accept.ghost_name ≡ t.accept.ghost_name

-- the search has gone on from m things to n, and to row i, column a
pub record Advanced {S : Type 0} (x y : Memory S) (t u : Sheet) (m n i a : ℕ) : Type 0 where
  pub more : m ≤ n
  pub same : Same x y t u
  pub going : Going y u n i a

-- and the m things are what they were
pub record Extended {S : Type 0} (x y : Memory S) (t u : Sheet) (m n i a : ℕ) : Type 0 where
  pub advanced : Advanced x y t u m n i a
  pub kept : (p : ℕ) → p < m → y.at p ≡ x.at p

-- the sheet has the table of the automaton's things that are reached: m things, none of them twice
pub record Tabled {S : Type 0} (x : Automaton S) (t u : Sheet) (m : ℕ) : Type 0 where
  pub at : ℕ → S
  pub few : m ≤ t.shape.most
  pub explored : Explored x.sets x.step x.start m at (entry u.rows.now t.shape.width)
  pub accepted : (i : ℕ) → i < m → accepts u.accept.now i ≡ x.accepts (at i)
  pub shape : u.shape ≡ t.shape
  pub rows : u.rows.ghost_name ≡ t.rows.ghost_name
  pub accept : u.accept.ghost_name ≡ t.accept.ghost_name

-- more than n things are reached
abbrev pub Excess : {S : Type 0} → Automaton S → ℕ → Type 0
Excess x n = TooMany x.sets x.step x.start n
