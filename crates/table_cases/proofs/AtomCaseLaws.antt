-- The table of a claim without parts, over the columns of its own sets, as it is read.
use Rattle.std.proofs.Common.{◌≡◌, ℕ, ◌^◌, ◌<◌, ap, subst, ◌∙◌}
use Rattle.automata.specs.Tables.{Connected, Collapsed}
use Rattle.claims.specs.Claims.{C}
use Rattle.narrowing.proofs.WideLaws.{connected_narrow, collapsed_narrow}
use Rattle.selection.specs.Selections.{chosen, count}
use Rattle.selection.specs.declared.selection.Selection.{Selection}
use Rattle.tables.specs.Cells.{entry, accepts}
use Rattle.tables.specs.Sheets.{Shows}
use Rattle.tables.specs.View.{moves, accepting}
use Rattle.tables.specs.declared.cells.WordTable.{WordTable}
use Rattle.tables.specs.declared.sheet.Sheet.{Sheet}
use Rattle.atoms.specs.AtomTable.{Exact}

module _ {sets : Selection} {s u : Sheet} {c : C} {m : ℕ} (x : Exact sets s u c m) (columns : s.shape.sets ≡ count sets) where
  width : s.shape.width ≡ 2 ^ count sets
  width = s.shape.wide ∙ ap (λ k. 2 ^ k) columns

  connected : Connected (count sets) m (entry u.rows.now s.shape.width)
  connected = rw width (connected_narrow sets.of (chosen sets) (entry u.rows.now (2 ^ count sets)) m x.worked.table.connected)

  pub exact_below : (q a : ℕ) → q < m → a < u.shape.width → entry u.rows.now u.shape.width q a < m
  exact_below = rw x.shape (λ q a h l. connected.closed q a h (subst (λ z. a < z) width l))

  module _ (t : WordTable) (shows : Shows u m t) where
    read_sets : t.sets ≡ count sets
    read_sets = shows.sets ∙ ap (λ z. z.sets) x.shape ∙ columns

    pub exact_connected : Connected t.sets t.table.classes (moves t.table)
    exact_connected = rw (read_sets, shows.classes, shows.width, shows.rows, x.shape) connected

    pub exact_collapsed : Collapsed t.sets t.table.classes (moves t.table) (accepting t.table)
    exact_collapsed = rw (read_sets, shows.classes, shows.width, shows.rows, shows.accept, x.shape, width) (collapsed_narrow sets.of (chosen sets) (entry u.rows.now (2 ^ count sets)) (accepts u.accept.now) m x.worked.collapsed)
