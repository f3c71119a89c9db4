-- From an exact table to the table of its sets of live classes, which says "some set x", or that
-- this does not fit.
use Rattle.std.proofs.Common.{◌≡◌, ℕ, ◌^◌, ◌<◌, ◌≤◌, Bool, true, false, ◌↔◌, List, Option, Some, sym, refl, ap, ap₂, ◌∙◌, subst, inl, inr, arith}
use mathlib.Core.Bool.{false≢true}
use Rattle.std.proofs.lemmas.Bool.Decides.{eqb_tells}
use Rattle.automata.specs.Search.{Explored, TooMany}
use Rattle.automata.specs.Subsets.{Completes, Live, start_set, step_set}
use Rattle.automata.specs.Tables.{Collapsed, Connected}
use Rattle.automata.specs.Worked.{Shown, Worked}
use Rattle.automata.proofs.Working.{many_some, shown_same, shown_some}
use Rattle.claims.specs.Claims.{C, some}
use Rattle.claims.specs.Sizes.{Fits}
use Rattle.live.specs.Dead.{lives}
use Rattle.live.proofs.DeadLaws.{lives_below}
use Rattle.narrowing.specs.Columns.{size, extract, deposit}
use Rattle.narrowing.specs.Mentioned.{mentions}
use Rattle.narrowing.specs.Wide.{wide}
use Rattle.narrowing.proofs.AbsentLaws.{absent_worked}
use Rattle.narrowing.proofs.ColumnsLaws.{extract_below, extract_past, size_less, size_more}
use Rattle.narrowing.proofs.LeftOutLaws.{left_out}
use Rattle.narrowing.proofs.PartsLaws.{completes_wide, set_sees}
use Rattle.narrowing.proofs.SearchLaws.{explored_wide, too_many_wide}
use Rattle.narrowing.proofs.WideLaws.{collapsed_narrow, connected_narrow, live_wide}
use Rattle.project.specs.Subsets.{reached}
use Rattle.selection.specs.Recolumn.{Recolumned}
use Rattle.selection.specs.Selections.{chosen, count}
use Rattle.selection.specs.declared.selection.Selection.{Selection}
use Rattle.tables.specs.Cells.{accepts, entry}
use Rattle.tables.specs.View.{moves, accepting}
use Rattle.tables.specs.Sheets.{Shows}
use Rattle.tables.specs.declared.cells.WordTable.{WordTable}
use Rattle.tables.specs.declared.sheet.Shape.{Shape}
use Rattle.tables.specs.declared.sheet.Sheet.{Sheet}
use Rattle.construct.specs.HandOn.{HandedOn}
use Rattle.construct.specs.Stands.{Reads, Result, Stands}
use Rattle.construct.specs.declared.part.Part.{Part}
use Rattle.construct.specs.declared.wanted.Wanted.{Wanted}
use Rattle.construct.specs.declared.wanted.Wanted.TheVariants.{Exact}
use Rattle.construct.proofs.StandsLaws.{stands_made, reads_worked, stands_wanted}
use Rattle.worklist.specs.Search.{Tabled, Excess}
use Rattle.worklist.proofs.SearchLaws.{tabled_sets, tabled_explored, tabled_accepted}

-- p is over the columns of the sets s of k, and stands for the exact table of c
module _ (k n : ℕ) (s : ℕ → Bool) (c : C) (p : WordTable) (sets : p.sets ≡ size k s) (v : Worked k n c p.table.classes (wide k s (moves p.table)) (accepting p.table)) where
  abbrev full : ℕ → ℕ → ℕ
  full = wide k s (moves p.table)

  -- what the search for the dead class asks of the table
  pub part_connected : Connected p.sets p.table.classes (moves p.table)
  part_connected = subst (λ u. Connected u p.table.classes (moves p.table)) (sym sets) (connected_narrow k s (moves p.table) p.table.classes v.table.connected)

  pub part_collapsed : Collapsed p.sets p.table.classes (moves p.table) (accepting p.table)
  part_collapsed = subst (λ u. Collapsed u p.table.classes (moves p.table) (accepting p.table)) (sym sets) (collapsed_narrow k s (moves p.table) (accepting p.table) p.table.classes v.collapsed)

  -- x is one of the sets, number y of them
  module _ (x y : ℕ) (below : x < k) (has : s x ≡ true) (place : y ≡ size x s) (dead : Option ℕ) (completed : List ℕ)
      (live : (q : ℕ) → q < p.table.classes → (lives p.table.classes dead q ≡ true) ↔ Live p.sets (moves p.table) (accepting p.table) q)
      (beyond : (q : ℕ) → q < p.table.classes → (accepts completed q ≡ true) ↔ Completes y (moves p.table) (accepting p.table) q) where
    abbrev alive : ℕ → Bool
    alive = lives p.table.classes dead

    alive_full : (q : ℕ) → q < p.table.classes → (alive q ≡ true) ↔ Live k full (accepting p.table) q
    alive_full q h =
        let l = live_wide k s (moves p.table) (accepting p.table) q in
        let o = subst (λ u. (alive q ≡ true) ↔ Live u (moves p.table) (accepting p.table) q) sets (live q h) in
        (λ e. l.0 (o.0 e), λ e. o.1 (l.1 e))

    beyond_full : (q : ℕ) → q < p.table.classes → (accepts completed q ≡ true) ↔ Completes x full (accepting p.table) q
    beyond_full q h =
        let l = completes_wide k x s below has (moves p.table) (accepting p.table) q in
        let o = subst (λ y. (accepts completed q ≡ true) ↔ Completes y (moves p.table) (accepting p.table) q) place (beyond q h) in
        (λ e. l.0 (o.0 e), λ e. o.1 (l.1 e))

    -- where sets lead, over narrow columns and over full ones
    abbrev small : (ℕ → Bool) → ℕ → ℕ → Bool
    small = step_set p.table.classes (moves p.table) alive (size x s)

    abbrev large : (ℕ → Bool) → ℕ → ℕ → Bool
    large = step_set p.table.classes full alive x

    pub some_many : Excess (reached p y dead completed) n → Fits k n (some x c) → ⊥
    some_many z = many_some k n x c p.table.classes full (accepting p.table) v below alive (lives_below p.table.classes dead) alive_full
        (too_many_wide k s large small (set_sees k x s below has p.table.classes (moves p.table) alive) (start_set alive) n
        (subst (λ u. TooMany u small (start_set alive) n) sets (subst (λ y. TooMany p.sets (step_set p.table.classes (moves p.table) alive y) (start_set alive) n) place z)))

    module _ {found written : Sheet} {o : ℕ} (same : found.shape.sets ≡ p.sets) (most : found.shape.most ≡ n) (z : Tabled (reached p y dead completed) found written o) (r : WordTable) (shows : Shows written o r) where
      pub some_sets : r.sets ≡ size k s
      some_sets = tabled_sets z same r shows ∙ sets

      explored : Explored k large (start_set alive) r.table.classes z.at (wide k s (moves r.table))
      explored = explored_wide k s large small (set_sees k x s below has p.table.classes (moves p.table) alive) (start_set alive) r.table.classes z.at (moves r.table)
          (subst (λ u. Explored u small (start_set alive) r.table.classes z.at (moves r.table)) some_sets (subst (λ y. Explored r.sets (step_set p.table.classes (moves p.table) alive y) (start_set alive) r.table.classes z.at (moves r.table)) place (tabled_explored z same r shows)))

      pub some_shown : Shown k n (some x c) r.table.classes (wide k s (moves r.table)) (accepting r.table)
      some_shown = shown_some k n x c p.table.classes full (accepting p.table) v below alive (lives_below p.table.classes dead) alive_full r.table.classes z.at (wide k s (moves r.table)) (accepts completed) (accepting r.table) explored
          (rw (shows.classes, ← most) z.few) beyond_full (tabled_accepted z same r shows)

-- the sets without x are those that some x mentions
some_mentioned : (c : C) (x : ℕ) (s r : ℕ → Bool) → ((z : ℕ) → s z ≡ mentions c z) → r x ≡ false → ((z : ℕ) → (z ≡ x → ⊥) → r z ≡ s z) → (z : ℕ) → r z ≡ mentions (some x c) z
some_mentioned c x s r m gone others z = elim (eqb_tells z x) [
  | inl e ↦ rw (e.0, e.1) gone
  | inr e ↦ rw e.0 (others z e.1 ∙ m z)
]

-- A claim that does not mention x: its part is that of some x as well.
pub absent_result : {k : ℕ} (s : Sheet) (part : Part) (x : ℕ) {c : C} → x < k → chosen part.sets x ≡ false → Stands Exact k s c part → (wanted : Wanted) → Result wanted k s s (some x c) (Some part)
absent_result {k = k} s part x {c = c} below gone t wanted = (
  refl,
  stands_wanted wanted k s (some x c) part record {
    few = t.few;
    of = t.of;
    mentioned = some_mentioned c x (chosen part.sets) (chosen part.sets) t.mentioned gone (λ z n. refl);
    narrow = t.narrow;
    meets = absent_worked part.sets.of s.shape.most x c part.classes (wide part.sets.of (chosen part.sets) (entry s.rows.now (2 ^ count part.sets))) (accepts s.accept.now) t.meets t.few (subst (λ k. x < k) (sym t.of) below) (sym (t.mentioned x) ∙ gone)
        (λ q a b. ap (entry s.rows.now (2 ^ count part.sets) q) (extract_past part.sets.of x (chosen part.sets) gone b a));
  },
)

-- One that does: what is known of the part, of its sets and of those without x.
module _ {k : ℕ} {h : Shape} (s : Sheet) (part : Part) (sets : Selection) (p : WordTable) (x : ℕ) {c : C} (e : s.shape ≡ h) (below : x < k) (has : chosen part.sets x ≡ true) (of : sets.of ≡ part.sets.of) (gone : chosen sets x ≡ false) (others : (z : ℕ) → (z ≡ x → ⊥) → chosen sets z ≡ chosen part.sets z) (t : Stands Exact k s c part) (reads : Reads s part p) where
  k_is : sets.of ≡ k
  k_is = of ∙ t.of

  among : (z : ℕ) → chosen sets z ≡ true → chosen part.sets z ≡ true
  among z i = elim (eqb_tells z x) [
    | inl q ↦ absurd (false≢true (sym gone ∙ ap (chosen sets) (sym q.1) ∙ i))
    | inr q ↦ sym (others z q.1) ∙ i
  ]

  -- fewer sets without x
  pub fewer : count sets ≤ count part.sets
  fewer = subst (λ i. size i (chosen sets) ≤ count part.sets) (sym of) (size_more part.sets.of (chosen sets) (chosen part.sets) among)

  pub part_few : p.sets ≤ h.sets
  part_few = rw (reads.sets, ← (ap (λ g. g.sets) e)) t.narrow

  pub columns : p.sets ≡ size k (chosen part.sets)
  columns = reads.sets ∙ ap (λ i. size i (chosen part.sets)) t.of

  pub worked : Worked k h.most c p.table.classes (wide k (chosen part.sets) (moves p.table)) (accepting p.table)
  worked = subst (λ g. Worked k g.most c p.table.classes (wide k (chosen part.sets) (moves p.table)) (accepting p.table)) e (reads_worked k s c part t p reads)

  -- x is one of the part's sets
  pub inside : {y : ℕ} → y ≡ size x (chosen part.sets) → y < p.sets
  inside f = rw (f, columns) (size_less k x (chosen part.sets) below has)

  module _ {y : ℕ} (place : y ≡ size x (chosen part.sets)) (dead : Option ℕ) (completed : List ℕ)
      (live : (q : ℕ) → q < p.table.classes → (lives p.table.classes dead q ≡ true) ↔ Live p.sets (moves p.table) (accepting p.table) q)
      (beyond : (q : ℕ) → q < p.table.classes → (accepts completed q ≡ true) ↔ Completes y (moves p.table) (accepting p.table) q) where
    pub out_many : {n : ℕ} → n ≡ h.most → Excess (reached p y dead completed) n → Fits k s.shape.most (some x c) → ⊥
    out_many f z = subst (λ g. Fits k g.most (some x c) → ⊥) (sym e) (some_many k h.most (chosen part.sets) c p columns worked x y below has place dead completed live beyond (subst (Excess (reached p y dead completed)) f z))

    module _ {i : ℕ} (found written : Sheet) (r : WordTable) (same : found.shape.sets ≡ p.sets) (most : found.shape.most ≡ h.most) (z : Tabled (reached p y dead completed) found written i) (shows : Shows written i r) where
      pub out_columns : r.sets ≡ count part.sets
      out_columns = tabled_sets z same r shows ∙ reads.sets

      pub out_few : r.table.classes ≤ h.most
      out_few = rw (shows.classes, ← most) z.few

      shown : Shown k s.shape.most (some x c) r.table.classes (wide k (chosen part.sets) (moves r.table)) (accepting r.table)
      shown = subst (λ g. Shown k g.most (some x c) r.table.classes (wide k (chosen part.sets) (moves r.table)) (accepting r.table)) (sym e)
          (some_shown k h.most (chosen part.sets) c p columns worked x y below has place dead completed live beyond same most z r shows)

      found_all : Explored k (step_set p.table.classes (wide k (chosen part.sets) (moves p.table)) (lives p.table.classes dead) x) (start_set (lives p.table.classes dead)) r.table.classes z.at (wide k (chosen part.sets) (moves r.table))
      found_all = explored k h.most (chosen part.sets) c p columns worked x y below has place dead completed live beyond same most z r shows

      -- the sets' table, written over the columns of the sets without x
      module _ (v w : Sheet) (o : WordTable) (narrow : v.shape.sets ≡ count sets) (y' : Recolumned r part.sets sets v w) (reads' : Shows w r.table.classes o) where
        o_width : o.table.width ≡ v.shape.width
        o_width = reads'.width ∙ ap (λ g. g.width) y'.shape

        pub o_columns : o.sets ≡ count sets
        o_columns = reads'.sets ∙ ap (λ g. g.sets) y'.shape ∙ narrow

        o_leads : (q a : ℕ) → q < r.table.classes → a < 2 ^ k → wide k (chosen sets) (moves o.table) q a ≡ wide k (chosen part.sets) (moves r.table) q a
        o_leads q a g l =
            let j = extract k (chosen sets) a in
            let b : j < v.shape.width = subst (λ w. j < w) (sym (v.shape.wide ∙ ap (λ v. 2 ^ v) (narrow ∙ ap (λ i. size i (chosen sets)) k_is))) (extract_below k (chosen sets) a) in
            let d : entry o.table.rows.now o.table.width q j ≡ moves r.table q (extract part.sets.of (chosen part.sets) (deposit sets.of (chosen sets) j)) = rw (reads'.rows, o_width) (y'.leads q j g b) in
            d ∙ ap₂ (λ i n. moves r.table q (extract i (chosen part.sets) (deposit n (chosen sets) j))) t.of k_is
            ∙ left_out k x below (chosen part.sets) (chosen sets) (λ z n i. others z n ∙ i) p.table.classes (wide k (chosen part.sets) (moves p.table)) (lives p.table.classes dead) (start_set (lives p.table.classes dead)) r.table.classes z.at (moves r.table) found_all q a g l

        o_shown : Shown k s.shape.most (some x c) o.table.classes (wide k (chosen sets) (moves o.table)) (accepting o.table)
        o_shown = rw reads'.classes (shown_same k s.shape.most (some x c) r.table.classes (wide k (chosen part.sets) (moves r.table)) (wide k (chosen sets) (moves o.table)) (accepting r.table) (accepting o.table) shown o_leads (λ q g. rw reads'.accept (y'.ends q g)))

        pub out_result : (wanted : Wanted) (u : Sheet) {m : ℕ} → HandedOn wanted o s u m → Result wanted k s u (some x c) (Some record { sets = sets; classes = m })
        out_result wanted u {m = m} d = (
          d.shape,
          stands_made wanted k u (some x c) record { sets = sets; classes = m } s.shape.most o.table.width k_is (some_mentioned c x (chosen part.sets) (chosen sets) t.mentioned gone others) (rw d.shape (omega (arith, fewer, t.narrow))) (ap (λ g. g.most) (sym d.shape)) d.few
              (o.wide ∙ ap (λ v. 2 ^ v) o_columns) (d.meets k (chosen sets) (some x c) (o_columns ∙ ap (λ i. size i (chosen sets)) k_is) o_shown),
        )
