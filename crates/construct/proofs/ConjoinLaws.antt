-- From two exact tables to their product, which says both claims, or that these do not fit.
use Rattle.std.proofs.Common.{◌≡◌, ℕ, ◌^◌, ◌≤◌, Bool, ◌||◌, Some, sym, ap, ap₂, ◌∙◌, subst}
use Rattle.automata.specs.Product.{pair, step_pair}
use Rattle.automata.specs.Search.{Explored, TooMany}
use Rattle.automata.specs.Worked.{Shown, Worked}
use Rattle.automata.proofs.Working.{shown_and, many_and}
use Rattle.claims.specs.Claims.{C, and1}
use Rattle.claims.specs.Sizes.{Fits}
use Rattle.narrowing.specs.Columns.{size}
use Rattle.narrowing.specs.Mentioned.{mentions}
use Rattle.narrowing.specs.Wide.{wide}
use Rattle.narrowing.proofs.ColumnsLaws.{size_same}
use Rattle.narrowing.proofs.PartsLaws.{pair_sees}
use Rattle.narrowing.proofs.SearchLaws.{explored_wide, too_many_wide}
use Rattle.product.specs.Pairs.{both as pairs}
use Rattle.tables.specs.View.{moves, accepting}
use Rattle.tables.specs.Sheets.{Shows}
use Rattle.tables.specs.declared.cells.WordTable.{WordTable}
use Rattle.tables.specs.declared.sheet.Shape.{Shape}
use Rattle.tables.specs.declared.sheet.Sheet.{Sheet}
use Rattle.selection.specs.Selections.{chosen, count}
use Rattle.selection.specs.declared.selection.Selection.{Selection}
use Rattle.construct.specs.HandOn.{HandedOn}
use Rattle.construct.specs.Stands.{ExactOf, Reads, Result, Stands}
use Rattle.construct.specs.Widen.{Widened}
use Rattle.construct.specs.declared.part.Part.{Part}
use Rattle.construct.specs.declared.wanted.Wanted.{Wanted}
use Rattle.construct.specs.declared.wanted.Wanted.TheVariants.{Exact}
use Rattle.construct.proofs.StandsLaws.{stands_made, reads_worked}
use Rattle.construct.proofs.WidenLaws.{widened_worked}
use Rattle.worklist.specs.Search.{Tabled, Excess}
use Rattle.worklist.proofs.SearchLaws.{tabled_sets, tabled_explored, tabled_accepted}

-- a and b are over the columns of the same sets x of k, and stand for the exact tables of c and d
module _ (k n : ℕ) (x : ℕ → Bool) (c d : C) (a b : WordTable) (sets : a.sets ≡ size k x) (v : Worked k n c a.table.classes (wide k x (moves a.table)) (accepting a.table)) (w : Worked k n d b.table.classes (wide k x (moves b.table)) (accepting b.table)) where
  abbrev full : ℕ → ℕ → ℕ
  full = wide k x (moves a.table)

  abbrev other : ℕ → ℕ → ℕ
  other = wide k x (moves b.table)

  pub and_many : Excess (pairs a b) n → Fits k n (and1 c d) → ⊥
  and_many z = many_and k n c d a.table.classes b.table.classes full other (accepting a.table) (accepting b.table) v w
      (too_many_wide k x (step_pair full other) (step_pair (moves a.table) (moves b.table)) (pair_sees k x (moves a.table) (moves b.table)) (pair 0 0) n
      (subst (λ s. TooMany s (step_pair (moves a.table) (moves b.table)) (pair 0 0) n) sets z))

  module _ {found written : Sheet} {o : ℕ} (same : found.shape.sets ≡ a.sets) (most : found.shape.most ≡ n) (z : Tabled (pairs a b) found written o) (r : WordTable) (shows : Shows written o r) where
    pub and_sets : r.sets ≡ size k x
    and_sets = tabled_sets z same r shows ∙ sets

    pub and_shown : Shown k n (and1 c d) r.table.classes (wide k x (moves r.table)) (accepting r.table)
    and_shown = shown_and k n c d a.table.classes b.table.classes full other (accepting a.table) (accepting b.table) v w r.table.classes z.at (wide k x (moves r.table)) (accepting r.table)
        (explored_wide k x (step_pair full other) (step_pair (moves a.table) (moves b.table)) (pair_sees k x (moves a.table) (moves b.table)) (pair 0 0) r.table.classes z.at (moves r.table)
        (subst (λ s. Explored s (step_pair (moves a.table) (moves b.table)) (pair 0 0) r.table.classes z.at (moves r.table)) and_sets (tabled_explored z same r shows)))
        (rw (shows.classes, ← most) z.few) (tabled_accepted z same r shows)

-- the sets of both parts are those that both claims mention
both_mentioned : (k : ℕ) (s : Sheet) (left : Part) (right : Selection) (n : ℕ) (o : WordTable) (both : Selection) → ((z : ℕ) → chosen both z ≡ (chosen left.sets z || chosen right z)) → (c d : C) → Stands Exact k s c left → ExactOf k n right o d → (z : ℕ) → chosen both z ≡ mentions (and1 c d) z
both_mentioned k s left right n o both e c d t v z = e z ∙ ap₂ (λ a b. a || b) (t.mentioned z) (v.mentioned z)

module _ {k : ℕ} {h : Shape} (s : Sheet) (left : Part) (right : Selection) (o : WordTable) (both : Selection) {c d : C} (e : s.shape ≡ h) (of : both.of ≡ left.sets.of) (either : (z : ℕ) → chosen both z ≡ (chosen left.sets z || chosen right z)) (t : Stands Exact k s c left) (v : ExactOf k h.most right o d) where
  mentioned : (z : ℕ) → chosen both z ≡ mentions (and1 c d) z
  mentioned = both_mentioned k s left right h.most o both either c d t v

  k_is : both.of ≡ k
  k_is = of ∙ t.of

  -- so they are no more than may be
  pub both_few : {w : ℕ} → size k (mentions (and1 c d)) ≤ w → count both ≤ w
  both_few {w = w} l = subst (λ n. n ≤ w) (sym (size_same k (chosen both) (mentions (and1 c d)) mentioned) ∙ ap (λ i. size i (chosen both)) (sym k_is)) l

  module _ (l a b : WordTable) (x : Reads s left l) (wa : Widened l left.sets both a) (wb : Widened o right both b) where
    sets : a.sets ≡ size k (chosen both)
    sets = wa.sets ∙ ap (λ i. size i (chosen both)) k_is

    first : Worked k h.most c a.table.classes (wide k (chosen both) (moves a.table)) (accepting a.table)
    first = widened_worked k h.most c l left.sets both a t.of k_is wa (subst (λ g. Worked k g.most c l.table.classes (wide k (chosen left.sets) (moves l.table)) (accepting l.table)) e (reads_worked k s c left t l x))

    second : Worked k h.most d b.table.classes (wide k (chosen both) (moves b.table)) (accepting b.table)
    second = widened_worked k h.most d o right both b v.of k_is wb (subst (λ i. Worked i h.most d o.table.classes (wide i (chosen right) (moves o.table)) (accepting o.table)) v.of v.worked)

    pub both_many : {n : ℕ} → n ≡ h.most → Excess (pairs a b) n → Fits k s.shape.most (and1 c d) → ⊥
    both_many f z = subst (λ g. Fits k g.most (and1 c d) → ⊥) (sym e) (and_many k h.most (chosen both) c d a b sets first second (subst (Excess (pairs a b)) f z))

    module _ {i : ℕ} (found written : Sheet) (r : WordTable) (columns : found.shape.sets ≡ count both) (most : found.shape.most ≡ h.most) (z : Tabled (pairs a b) found written i) (shows : Shows written i r) where
      pub both_columns : r.sets ≡ count both
      both_columns = tabled_sets z (columns ∙ sym wa.sets) r shows ∙ wa.sets

      shown : Shown k s.shape.most (and1 c d) r.table.classes (wide k (chosen both) (moves r.table)) (accepting r.table)
      shown = subst (λ g. Shown k g.most (and1 c d) r.table.classes (wide k (chosen both) (moves r.table)) (accepting r.table)) (sym e)
          (and_shown k h.most (chosen both) c d a b sets first second (columns ∙ sym wa.sets) most z r shows)

      pub both_result : {wanted : Wanted} (u : Sheet) {m : ℕ} → HandedOn wanted r s u m → count both ≤ h.sets → Result wanted k s u (and1 c d) (Some record { sets = both; classes = m })
      both_result {wanted = wanted} u {m = m} y few = (
        y.shape,
        stands_made wanted k u (and1 c d) record { sets = both; classes = m } s.shape.most r.table.width k_is mentioned (rw (y.shape, e) few) (ap (λ g. g.most) (sym y.shape)) y.few
            (r.wide ∙ ap (λ v. 2 ^ v) both_columns) (y.meets k (chosen both) (and1 c d) (both_columns ∙ ap (λ i. size i (chosen both)) k_is) shown),
      )
