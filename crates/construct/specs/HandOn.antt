-- A table that was worked out, handed on as it is wanted.
use Rattle.std.specs.Prelude.{◌≡◌, ℕ, ◌≤◌, Bool}
use Rattle.claims.specs.Claims.{C}
use Rattle.automata.specs.Worked.{Shown}
use Rattle.narrowing.specs.Columns.{size}
use Rattle.narrowing.specs.Wide.{wide}
use Rattle.tables.specs.Cells.{entry, accepts}
use Rattle.tables.specs.declared.cells.WordTable.{WordTable}
use Rattle.tables.specs.declared.sheet.Sheet.{Sheet}
use Rattle.tables.specs.View.{moves, accepting}
use Rattle.construct.specs.declared.wanted.Wanted.{Wanted}
use Rattle.construct.specs.Stands.{Meets}

-- the sheet was s and is u: a table of r classes stands there, in rows as wide as those of t;
-- whichever sets of k the columns are of, and whichever claim t says over these, it is a table of
-- that claim as it is wanted
pub record HandedOn (wanted : Wanted) (t : WordTable) (s u : Sheet) (r : ℕ) : Type 0 where
  pub few : r ≤ s.shape.most
  pub meets : (k : ℕ) (x : ℕ → Bool) (c : C) → t.sets ≡ size k x → Shown k s.shape.most c t.table.classes (wide k x (moves t.table)) (accepting t.table) → Meets wanted k s.shape.most c r (wide k x (entry u.rows.now t.table.width)) (accepts u.accept.now)
  pub shape : u.shape ≡ s.shape
