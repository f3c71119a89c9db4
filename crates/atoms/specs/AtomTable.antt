-- The exact table of a claim without parts, over the columns of its own sets, on a sheet.
use Rattle.std.specs.Prelude.{◌≡◌, ℕ, ◌^◌, ◌≤◌}
use Rattle.automata.specs.Worked.{Worked}
use Rattle.claims.specs.Claims.{C}
use Rattle.narrowing.specs.Wide.{wide}
use Rattle.selection.specs.Selections.{chosen, count}
use Rattle.selection.specs.declared.selection.Selection.{Selection}
use Rattle.tables.specs.Cells.{entry, accepts}
use Rattle.tables.specs.declared.sheet.Sheet.{Sheet}

-- the sheet was s and is u: the table that stands there, of m classes over the columns of these
-- sets, stands for claim c's exact table
pub record Exact (sets : Selection) (s u : Sheet) (c : C) (m : ℕ) : Type 0 where
  pub few : m ≤ s.shape.most
  pub worked : Worked sets.of s.shape.most c m (wide sets.of (chosen sets) (entry u.rows.now (2 ^ count sets))) (accepts u.accept.now)
  pub shape : u.shape ≡ s.shape
