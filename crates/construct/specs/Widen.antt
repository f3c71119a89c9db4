-- A part's table over the columns of more sets.
use Rattle.std.specs.Prelude.{◌≡◌, ℕ, ◌<◌}
use Rattle.narrowing.specs.Wide.{wide}
use Rattle.selection.specs.Selections.{chosen, count}
use Rattle.selection.specs.declared.selection.Selection.{Selection}
use Rattle.tables.specs.View.{moves, accepting}
use Rattle.tables.specs.declared.cells.WordTable.{WordTable}

-- r is over the columns of the sets of `to`, and stands for the same table over full columns as t,
-- which is over those of the sets of `from`
pub record Widened (t : WordTable) (from to : Selection) (r : WordTable) : Type 0 where
  pub classes : r.table.classes ≡ t.table.classes
  pub sets : r.sets ≡ count to
  pub leads : (q a : ℕ) → q < t.table.classes → wide to.of (chosen to) (moves r.table) q a ≡ wide from.of (chosen from) (moves t.table) q a
  pub ends : (q : ℕ) → q < t.table.classes → accepting r.table q ≡ accepting t.table q
