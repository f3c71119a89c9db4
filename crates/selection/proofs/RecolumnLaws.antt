-- One more column of a row, and one more row, of a table over the columns of other sets.
use Rattle.std.proofs.Common.{◌≡◌, ℕ, ◌+◌, ◌*◌, ◌<◌, ◌≤◌, List, get_or, length, refl, sym, ap, ◌∙◌, subst, arith}
use native.Mathlib.Decide.{ℕ_discrete}
use Rattle.tables.specs.Cells.{entry, put_entry, accepts}
use Rattle.tables.specs.View.{moves, accepting}
use Rattle.tables.proofs.CellsLaws.{put_here, put_other}
use Rattle.tables.specs.declared.cells.Table.{Table}
use Rattle.tables.specs.declared.cells.WordTable.{WordTable}
use Rattle.tables.specs.declared.sheet.Sheet.{Sheet}
use Rattle.narrowing.proofs.ColumnsLaws.{extract_below}
use Rattle.selection.specs.Selections.{chosen, count, narrow, spread}
use Rattle.selection.specs.Recolumn.{Recolumned, Remapped}
use Rattle.selection.specs.declared.selection.Selection.{Selection}

-- each column on the map is one of the table's
pub map_below : (t : WordTable) (from to : Selection) (map : List ℕ) (width : ℕ) → t.sets ≡ count from → ((j : ℕ) → j < width → get_or map j 0 ≡ narrow from (spread to j)) → (j : ℕ) → j < width → get_or map j 0 < t.table.width
map_below t from to map width e filled j h = rw (filled j h, t.wide, e) (extract_below from.of (chosen from) (spread to j))

-- no column is written
pub remapped_none : {t : Table} {map : List ℕ} {q : ℕ} {s : Sheet} → Remapped t map q 0 s s
remapped_none = record {
  leads = λ i h. let z : ⊥ = omega arith in absurd z;
  others = λ p i d h. refl;
  marks = refl;
  shape = refl;
  rows = refl;
  accept = refl;
}

-- column j is written, where the sheet was u and is v
module _ {t : Table} {map : List ℕ} {q j c : ℕ} {s u : Sheet} (r : Remapped t map q j s u) (hq : q < s.shape.most) (hj : j < s.shape.width) (e : c ≡ moves t q (get_or map j 0)) where
  room : s.shape.most * s.shape.width ≤ length u.rows.now
  room = subst (λ h. h.most * h.width ≤ length u.rows.now) r.shape u.rows_fit

  pub remapped_more : {v : Sheet} → v.rows.now ≡ put_entry u.rows.now u.shape.width q j c → v.accept.now ≡ u.accept.now → v.shape ≡ u.shape → v.rows.ghost_name ≡ u.rows.ghost_name → v.accept.ghost_name ≡ u.accept.ghost_name → Remapped t map q (j + 1) s v
  remapped_more {v} put marks shape rows accept =
      let written : v.rows.now ≡ put_entry u.rows.now s.shape.width q j c = put ∙ ap (λ h. put_entry u.rows.now h.width q j c) r.shape in
      record {
        leads = λ i h. elim (ℕ_discrete i j) [
          | yes d ↦ subst (λ i. entry v.rows.now s.shape.width q i ≡ moves t q (get_or map i 0)) (sym d) (ap (λ x. entry x s.shape.width q j) written ∙ put_here u.rows.now s.shape.most s.shape.width q j c room hq hj ∙ e)
          | no d ↦ ap (λ x. entry x s.shape.width q i) written ∙ put_other u.rows.now s.shape.width q j c q i hj (omega arith) (λ z. d z.1) ∙ r.leads i (omega arith)
        ];
        others = λ p i d h. ap (λ x. entry x s.shape.width p i) written ∙ put_other u.rows.now s.shape.width q j c p i hj h (λ z. d z.0) ∙ r.others p i d h;
        marks = marks ∙ r.marks;
        shape = shape ∙ r.shape;
        rows = rows ∙ r.rows;
        accept = accept ∙ r.accept;
      }

-- the first n classes have their rows and marks
pub record Written (t : WordTable) (from to : Selection) (n : ℕ) (s u : Sheet) : Type 0 where
  pub leads : (q j : ℕ) → q < n → j < s.shape.width → entry u.rows.now s.shape.width q j ≡ moves t.table q (narrow from (spread to j))
  pub ends : (q : ℕ) → q < n → accepts u.accept.now q ≡ accepting t.table q
  pub shape : u.shape ≡ s.shape
  pub rows : u.rows.ghost_name ≡ s.rows.ghost_name
  pub accept : u.accept.ghost_name ≡ s.accept.ghost_name

pub written_none : {t : WordTable} {from to : Selection} {s : Sheet} → Written t from to 0 s s
written_none = record {
  leads = λ q j h g. let z : ⊥ = omega arith in absurd z;
  ends = λ q h. let z : ⊥ = omega arith in absurd z;
  shape = refl;
  rows = refl;
  accept = refl;
}

-- row q is written, where the sheet was u and is v, and class q is marked, where it is w then
module _ {t : WordTable} {from to : Selection} {map : List ℕ} {q : ℕ} {s u v : Sheet} (r : Written t from to q s u) (m : Remapped t.table map q u.shape.width u v) (filled : (j : ℕ) → j < s.shape.width → get_or map j 0 ≡ narrow from (spread to j)) where
  same : u.shape.width ≡ s.shape.width
  same = ap (λ h. h.width) r.shape

  row : (j : ℕ) → j < s.shape.width → entry v.rows.now s.shape.width q j ≡ moves t.table q (narrow from (spread to j))
  row j h = ap (λ x. entry v.rows.now x q j) (sym same) ∙ m.leads j (omega (arith, same)) ∙ ap (moves t.table q) (filled j h)

  before : (p j : ℕ) → p < q → j < s.shape.width → entry v.rows.now s.shape.width p j ≡ moves t.table p (narrow from (spread to j))
  before p j l h = ap (λ x. entry v.rows.now x p j) (sym same) ∙ m.others p j (omega arith) (omega (arith, same)) ∙ ap (λ x. entry u.rows.now x p j) same ∙ r.leads p j l h

  pub written_more : {w : Sheet} → w.rows.now ≡ v.rows.now → accepts w.accept.now q ≡ accepting t.table q → ((p : ℕ) → p < q → accepts w.accept.now p ≡ accepts v.accept.now p) → w.shape ≡ v.shape → w.rows.ghost_name ≡ v.rows.ghost_name → w.accept.ghost_name ≡ v.accept.ghost_name → Written t from to (q + 1) s w
  written_more {w} now here others shape rows accept = record {
    leads = λ p j l h. ap (λ x. entry x s.shape.width p j) now ∙ elim (ℕ_discrete p q) [
      | yes d ↦ subst (λ p. entry v.rows.now s.shape.width p j ≡ moves t.table p (narrow from (spread to j))) (sym d) (row j h)
      | no d ↦ before p j (omega arith) h
    ];
    ends = λ p l. elim (ℕ_discrete p q) [
      | yes d ↦ subst (λ p. accepts w.accept.now p ≡ accepting t.table p) (sym d) here
      | no d ↦ others p (omega arith) ∙ ap (λ x. accepts x p) m.marks ∙ r.ends p (omega arith)
    ];
    shape = shape ∙ m.shape ∙ r.shape;
    rows = rows ∙ m.rows ∙ r.rows;
    accept = accept ∙ m.accept ∙ r.accept;
  }

pub written_all : {t : WordTable} {from to : Selection} {s u : Sheet} → Written t from to t.table.classes s u → Recolumned t from to s u
written_all w = record { leads = w.leads; ends = w.ends; shape = w.shape; rows = w.rows; accept = w.accept }
