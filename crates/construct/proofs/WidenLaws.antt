-- A table over the columns of more sets stands for the same table over full columns.
use Rattle.std.proofs.Common.{◌≡◌, ℕ, ◌^◌, ◌<◌, true, refl, sym, ap, ap₂, ◌∙◌, subst}
use Rattle.words.specs.Words.{bit}
use Rattle.automata.specs.Worked.{Worked}
use Rattle.claims.specs.Claims.{C}
use Rattle.narrowing.specs.Columns.{size, extract}
use Rattle.narrowing.specs.Wide.{wide}
use Rattle.narrowing.proofs.ColumnsLaws.{extract_below}
use Rattle.narrowing.proofs.PartsLaws.{more_sets}
use Rattle.selection.specs.Recolumn.{Recolumned}
use Rattle.selection.specs.Selections.{chosen, count, narrow, spread}
use Rattle.selection.specs.declared.selection.Selection.{Selection}
use Rattle.tables.specs.Cells.{entry}
use Rattle.tables.specs.Sheets.{Shows}
use Rattle.tables.specs.View.{moves, accepting}
use Rattle.tables.specs.declared.cells.WordTable.{WordTable}
use Rattle.tables.specs.declared.sheet.Sheet.{Sheet}
use Rattle.construct.specs.Widen.{Widened}
use Rattle.construct.proofs.StandsLaws.{worked_same}

-- the sets are the same
pub widened_same : (t : WordTable) (from to : Selection) → from.of ≡ to.of → t.sets ≡ count from → from.mask ≡ to.mask → Widened t from to t
widened_same t from to e f g = record {
  classes = refl;
  sets = f ∙ ap₂ (λ i m. size i (λ x. bit x m)) e g;
  leads = λ q a h. ap₂ (λ i m. moves t.table q (extract i (λ x. bit x m) a)) (sym e) (sym g);
  ends = λ q h. refl;
}

-- what was written leads to classes that there are
pub written_below : (t : WordTable) (from to : Selection) (s u : Sheet) → t.sets ≡ count from → Recolumned t from to s u → (q a : ℕ) → q < t.table.classes → a < u.shape.width → entry u.rows.now u.shape.width q a < t.table.classes
written_below t from to s u e h q a g b =
    let w : u.shape.width ≡ s.shape.width = ap (λ x. x.width) h.shape in
    let n : narrow from (spread to a) < t.table.width = rw (t.wide, e) (extract_below from.of (chosen from) (spread to a)) in
    rw (w, h.leads q a g (subst (λ v. a < v) w b)) (t.table.below q (narrow from (spread to a)) g n)

-- what is read from a sheet on which a table over other columns was written
module _ (t : WordTable) (from to : Selection) (s u : Sheet) (e : from.of ≡ to.of) (among : (x : ℕ) → chosen from x ≡ true → chosen to x ≡ true) (columns : s.shape.sets ≡ count to) (h : Recolumned t from to s u) (r : WordTable) (shows : Shows u t.table.classes r) where
  width : s.shape.width ≡ 2 ^ count to
  width = s.shape.wide ∙ ap (λ v. 2 ^ v) columns

  r_width : r.table.width ≡ s.shape.width
  r_width = shows.width ∙ ap (λ x. x.width) h.shape

  r_leads : (q j : ℕ) → q < t.table.classes → j < 2 ^ count to → moves r.table q j ≡ moves t.table q (narrow from (spread to j))
  r_leads q j g b = rw (shows.rows, r_width) (h.leads q j g (subst (λ w. j < w) (sym width) b))

  pub widened_read : Widened t from to r
  widened_read = record {
    classes = shows.classes;
    sets = shows.sets ∙ ap (λ x. x.sets) h.shape ∙ columns;
    leads = λ q a g. subst (λ k. wide to.of (chosen to) (moves r.table) q a ≡ wide k (chosen from) (moves t.table) q a) (sym e)
        (more_sets to.of (chosen from) (chosen to) among (moves t.table) (moves r.table) q
        (λ j b. subst (λ k. moves r.table q j ≡ moves t.table q (extract k (chosen from) (spread to j))) e (r_leads q j g b)) a (extract_below to.of (chosen to) a));
    ends = λ q g. rw shows.accept (h.ends q g);
  }

-- so it is exact as well
pub widened_worked : (k n : ℕ) (c : C) (t : WordTable) (from to : Selection) (r : WordTable) → from.of ≡ k → to.of ≡ k → Widened t from to r → Worked k n c t.table.classes (wide k (chosen from) (moves t.table)) (accepting t.table) → Worked k n c r.table.classes (wide k (chosen to) (moves r.table)) (accepting r.table)
widened_worked k n c t from to r e f h w = rw h.classes (worked_same k n c t.table.classes (wide k (chosen from) (moves t.table)) (wide k (chosen to) (moves r.table)) (accepting t.table) (accepting r.table) w
    (λ q a g b. subst (λ i. wide i (chosen to) (moves r.table) q a ≡ wide k (chosen from) (moves t.table) q a) f (subst (λ i. wide to.of (chosen to) (moves r.table) q a ≡ wide i (chosen from) (moves t.table) q a) e (h.leads q a g))) h.ends)
