-- Classes that are alike joined, and the table of the joined classes written.
use Rattle.std.specs.Prelude.{◌≡◌, ℕ, ◌<◌, ◌≤◌, List, slice_index}
use Rattle.automata.specs.Joined.{Joined, Written}
use Rattle.tables.specs.Cells.{entry, accepts}
use Rattle.tables.specs.View.{moves, accepting}
use Rattle.tables.specs.declared.cells.WordTable.{WordTable}
use Rattle.tables.specs.declared.sheet.Sheet.{Sheet}

-- cls has the part of each class of the table, firsts the first class of each of the n parts; a
-- part is the classes that are alike
pub record Alike (t : WordTable) (cls firsts : List ℕ) (n : ℕ) : Type 0 where
  pub joined : Joined t.sets t.table.classes (moves t.table) (accepting t.table) (λ q. slice_index cls q) (λ i. slice_index firsts i) n
  pub few : n ≤ t.table.classes

-- the classes of a table that are alike make n classes
pub record Joins (t : WordTable) (n : ℕ) : Type 0 where
  pub cls : ℕ → ℕ
  pub rep : ℕ → ℕ
  pub joined : Joined t.sets t.table.classes (moves t.table) (accepting t.table) cls rep n
  pub few : n ≤ t.table.classes

-- more than there is room for on the sheet
pub record TooManyJoined (t : WordTable) (s : Sheet) : Type 0 where
  pub count : ℕ
  pub joins : Joins t count
  pub many : s.shape.most < count

-- and the table of these stands on the sheet, which was s and is u, in rows as wide as the table's
pub record Minimized (t : WordTable) (s u : Sheet) (n : ℕ) : Type 0 where
  pub joins : Joins t n
  pub few : n ≤ s.shape.most
  pub written : Written t.sets (moves t.table) (accepting t.table) joins.cls joins.rep n (entry u.rows.now t.table.width) (accepts u.accept.now)
  pub shape : u.shape ≡ s.shape
  pub rows : u.rows.ghost_name ≡ s.rows.ghost_name
  pub accept : u.accept.ghost_name ≡ s.accept.ghost_name
