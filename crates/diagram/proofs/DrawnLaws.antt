-- The list of rectangles has those of the modules that show the part, and no others.
use Rattle.std.proofs.Common.{◌≡◌, ℕ, zero, suc, ◌+◌, true, false, cond, List, [], ◌∷◌, Contains, Some, Vec, inl, inr, sym, refl, ap, ◌∙◌, subst, arith, slice_get}
use Rattle.std.specs.Global.{Global}
use Rattle.std.proofs.lemmas.List.Elements.{Contains-append_left, Contains-append_right, Contains-append_cases}
use Rattle.diagram.specs.Places.{rect_of}
use Rattle.diagram.specs.Drawn.{shows, ShowsAt, IsDrawn, here, of_row, of_rows}
use Rattle.diagram.specs.declared.layout.Layout.{Layout}
use Rattle.diagram.specs.declared.layout.Part.{Part}
use Rattle.diagram.specs.declared.layout.Rect.{Rect}

none_in : {X : Type 0} (x : X) → Contains [] x → ⊥
none_in x h = omega (arith, h.1)

module _ (l : Layout) (part : Part) (step : ℕ) where
  -- one module
  here_each : (place column : ℕ) → shows part column ≡ true → Contains (here l part step place column) (rect_of l part step place)
  here_each place column s = rw s (0, omega arith, refl)

  here_only : (place column : ℕ) (rect : Rect) → Contains (here l part step place column) rect → (shows part column ≡ true) × (rect ≡ rect_of l part step place)
  here_only place column rect = elim (shows part column) as (λ b. Contains (cond b (rect_of l part step place ∷ []) []) rect → (b ≡ true) × (rect ≡ rect_of l part step place)) [
    | true ↦ λ h. (refl, sym (only h))
    | false ↦ λ h. absurd (none_in rect h)
  ]
    where
      only : Contains (rect_of l part step place ∷ []) rect → rect_of l part step place ≡ rect
      only (zero, k, e) = e
      only (suc i, k, e) = absurd (let z : ⊥ = omega (arith, k) in z)

  -- one row, from a place on
  row_each : (from : ℕ) (row : List ℕ) (i column : ℕ) → slice_get row i ≡ Some column → shows part column ≡ true → Contains (of_row l part step from row) (rect_of l part step (from + i))
  row_each from [] i column g s = cc
  row_each from (c ∷ row) zero column g s =
      let e : c ≡ column = cc in
      let z : from + 0 ≡ from = omega arith in
      rw z (Contains-append_left (here l part step from c) (of_row l part step (suc from) row) (rect_of l part step from) (here_each from c (rw e s)))
  row_each from (c ∷ row) (suc i) column g s =
      let z : from + suc i ≡ suc from + i = omega arith in
      rw z (Contains-append_right (here l part step from c) (of_row l part step (suc from) row) (rect_of l part step (suc from + i)) (row_each (suc from) row i column g s))

  abbrev InRow : ℕ → List ℕ → Rect → Type 0
  InRow from row rect = (i : ℕ) × (column : ℕ) × (slice_get row i ≡ Some column) × (shows part column ≡ true) × (rect ≡ rect_of l part step (from + i))

  row_only : (from : ℕ) (row : List ℕ) (rect : Rect) → Contains (of_row l part step from row) rect → InRow from row rect
  row_only from [] rect h = absurd (none_in rect h)
  row_only from (c ∷ row) rect h = elim (Contains-append_cases (here l part step from c) (of_row l part step (suc from) row) rect h) [
    | inl k ↦
        let o = here_only from c rect k in
        let z : from + 0 ≡ from = omega arith in
        (0, c, refl, o.0, o.1 ∙ ap (rect_of l part step) (sym z))
    | inr k ↦
        let (i, column, g, s, e) = row_only (suc from) row rect k in
        let z : suc from + i ≡ from + suc i = omega arith in
        (suc i, column, g, s, e ∙ ap (rect_of l part step) z)
  ]

module _ (l : Layout) (part : Part) where
  -- all rows, from a step on
  rows_each : (from : ℕ) (rows : List (Vec ℕ Global)) (t i column : ℕ) (row : Vec ℕ Global) → slice_get rows t ≡ Some row → slice_get row.items i ≡ Some column → shows part column ≡ true → Contains (of_rows l part from rows) (rect_of l part (from + t) i)
  rows_each from [] t i column row h g s = cc
  rows_each from (r ∷ rows) zero i column row h g s =
      let e : r ≡ row = cc in
      let z : from + 0 ≡ from = omega arith in
      let y : 0 + i ≡ i = omega arith in
      let here' : Contains (of_row l part from 0 r.items) (rect_of l part from i) = subst (λ n. Contains (of_row l part from 0 r.items) (rect_of l part from n)) y (row_each l part from 0 r.items i column (rw e g) s) in
      rw z (Contains-append_left (of_row l part from 0 r.items) (of_rows l part (suc from) rows) (rect_of l part from i) here')
  rows_each from (r ∷ rows) (suc t) i column row h g s =
      let z : from + suc t ≡ suc from + t = omega arith in
      rw z (Contains-append_right (of_row l part from 0 r.items) (of_rows l part (suc from) rows) (rect_of l part (suc from + t) i) (rows_each (suc from) rows t i column row h g s))

  abbrev InRows : ℕ → List (Vec ℕ Global) → Rect → Type 0
  InRows from rows rect = (t : ℕ) × (i : ℕ) × ShowsAt part rows t i × (rect ≡ rect_of l part (from + t) i)

  rows_only : (from : ℕ) (rows : List (Vec ℕ Global)) (rect : Rect) → Contains (of_rows l part from rows) rect → InRows from rows rect
  rows_only from [] rect h = absurd (none_in rect h)
  rows_only from (r ∷ rows) rect h = elim (Contains-append_cases (of_row l part from 0 r.items) (of_rows l part (suc from) rows) rect h) [
    | inl k ↦
        let (i, column, g, s, e) = row_only l part from 0 r.items rect k in
        let z : from ≡ from + 0 = omega arith in
        let y : 0 + i ≡ i = omega arith in
        (0, i, record { row = r; at_step = refl; column = column; at_place = g; shown = s }, e ∙ (ap (λ n. rect_of l part from n) y ∙ ap (λ n. rect_of l part n i) z))
    | inr k ↦
        let (t, i, s, e) = rows_only (suc from) rows rect k in
        let z : suc from + t ≡ from + suc t = omega arith in
        (suc t, i, record { row = s.row; at_step = s.at_step; column = s.column; at_place = s.at_place; shown = s.shown }, e ∙ ap (λ n. rect_of l part n i) z)
  ]

  pub of_rows-drawn : (rows : List (Vec ℕ Global)) → IsDrawn l part rows (of_rows l part 0 rows)
  of_rows-drawn rows = record {
    each = λ t i s.
        (let z : 0 + t ≡ t = omega arith in
        subst (λ n. Contains (of_rows l part 0 rows) (rect_of l part n i)) z (rows_each 0 rows t i s.column s.row s.at_step s.at_place s.shown));
    only = λ rect h.
        (let (t, i, s, e) = rows_only 0 rows rect h in
        let z : 0 + t ≡ t = omega arith in
        record { step = t; place = i; shows_at = s; lies = e ∙ ap (λ n. rect_of l part n i) z });
  }
