-- A claim's table on a sheet: what a reader of it needs, and that the two parts of an and may be
-- worked out in either order.
use Rattle.std.proofs.Common.{◌≡◌, ℕ, ◌*◌, ◌^◌, ◌<◌, ◌≤◌, Bool, true, false, ◌||◌, List, [], length, None, Some, Option, sym, refl, ap, ◌∙◌, subst, arith}
use Rattle.std.proofs.Math.Pow.{pow_mono}
use Rattle.std.proofs.lemmas.Nat.{mul-le}
use Rattle.claims.specs.Claims.{C, Of, and1, atom, not1, some}
use Rattle.claims.specs.Fronts.{Front}
use Rattle.claims.specs.Sizes.{Fits, Top}
use Rattle.claims.proofs.FrontLaws.{same_front}
use Rattle.automata.specs.Search.{Ordered}
use Rattle.automata.specs.Tables.{Connected, Table}
use Rattle.automata.specs.Worked.{Worked}
use Rattle.automata.proofs.Counting.{nth_below}
use Rattle.automata.proofs.FirstWords.{ordered_same}
use Rattle.automata.proofs.Tables.{collapsed_same, table_same}
use Rattle.narrowing.specs.Mentioned.{mentions}
use Rattle.narrowing.specs.Wide.{wide}
use Rattle.narrowing.proofs.WideLaws.{connected_narrow}
use Rattle.selection.specs.Selections.{chosen, count}
use Rattle.tables.specs.Cells.{accepts, entry}
use Rattle.tables.specs.View.{moves, accepting}
use Rattle.tables.specs.declared.cells.WordTable.{WordTable}
use Rattle.tables.specs.declared.sheet.Sheet.{Sheet}
use Rattle.construct.specs.declared.wanted.Wanted.{Wanted}
use Rattle.construct.specs.declared.wanted.Wanted.TheVariants.{Exact, Any}
use Rattle.construct.specs.declared.part.Part.{Part}
use Rattle.construct.specs.Stands.{ExactOf, Meets, Reads, Result, Stands}
use Rattle.construct.specs.WorkOut.{WorkedOut}

-- What tables as they are wanted have in common.
meets_table : (wanted : Wanted) (k n : ℕ) (c : C) (m : ℕ) (δ : ℕ → ℕ → ℕ) (f : ℕ → Bool) → Meets wanted k n c m δ f → Table k (Of c) m δ f
meets_table Exact k n c m δ f t = t.table
meets_table Any k n c m δ f t = t.table

meets_ordered : (wanted : Wanted) (k n : ℕ) (c : C) (m : ℕ) (δ : ℕ → ℕ → ℕ) (f : ℕ → Bool) → Meets wanted k n c m δ f → Ordered k m δ
meets_ordered Exact k n c m δ f t = t.ordered
meets_ordered Any k n c m δ f t = t.ordered

meets_fits : (wanted : Wanted) (k n : ℕ) (c : C) (m : ℕ) (δ : ℕ → ℕ → ℕ) (f : ℕ → Bool) → Meets wanted k n c m δ f → Fits k n c
meets_fits Exact k n c m δ f t = t.fits
meets_fits Any k n c m δ f t = t.fits

-- What a reader of the table needs.
module _ (wanted : Wanted) (k : ℕ) (s : Sheet) (c : C) (p : Part) (t : Stands wanted k s c p) where
  abbrev full : ℕ → ℕ → ℕ
  full = wide p.sets.of (chosen p.sets) (entry s.rows.now (2 ^ count p.sets))

  pub stands_table : Table p.sets.of (Of c) p.classes full (accepts s.accept.now)
  stands_table = meets_table wanted p.sets.of s.shape.most c p.classes full (accepts s.accept.now) t.meets

  pub stands_ordered : Ordered p.sets.of p.classes full
  stands_ordered = meets_ordered wanted p.sets.of s.shape.most c p.classes full (accepts s.accept.now) t.meets

  pub stands_fits : Fits k s.shape.most c
  stands_fits = subst (λ k. Fits k s.shape.most c) t.of (meets_fits wanted p.sets.of s.shape.most c p.classes full (accepts s.accept.now) t.meets)

  stands_narrow : Connected (count p.sets) p.classes (entry s.rows.now (2 ^ count p.sets))
  stands_narrow = connected_narrow p.sets.of (chosen p.sets) (entry s.rows.now (2 ^ count p.sets)) p.classes stands_table.connected

  pub stands_start : 0 < p.classes
  stands_start = stands_narrow.start

  -- its rows are those of a table with as many columns as it has sets
  module _ (v w : ℕ) (e : v ≡ count p.sets) (f : w ≡ 2 ^ v) where
    w_is : w ≡ 2 ^ count p.sets
    w_is = f ∙ ap (λ v. 2 ^ v) e

    pub stands_below : (q a : ℕ) → q < p.classes → a < w → entry s.rows.now w q a < p.classes
    stands_below = subst (λ w. (q a : ℕ) → q < p.classes → a < w → entry s.rows.now w q a < p.classes) (sym w_is) stands_narrow.closed

    pub stands_rows : p.classes * w ≤ length s.rows.now
    stands_rows =
        let o = pow_mono t.narrow in
        let g : w ≤ s.shape.width = rw (w_is, s.shape.wide) o in
        let m = mul-le p.classes w s.shape.most s.shape.width t.few g in
        omega (arith, s.rows_fit)

-- The table that is read.
module _ (k : ℕ) (s : Sheet) (c : C) (p : Part) (t : Stands Exact k s c p) (r : WordTable) (h : Reads s p r) where
  pub reads_width : r.table.width ≡ 2 ^ count p.sets
  reads_width = r.wide ∙ ap (λ v. 2 ^ v) h.sets

  -- over the full columns for which its own stand
  pub reads_worked : Worked k s.shape.most c r.table.classes (wide k (chosen p.sets) (moves r.table)) (accepting r.table)
  reads_worked = rw (h.classes, reads_width, h.rows, h.accept, ← t.of) t.meets

-- A table that was written into rows of w columns stands on the sheet.
pub stands_made : (wanted : Wanted) (k : ℕ) (u : Sheet) (c : C) (p : Part) (n w : ℕ) → p.sets.of ≡ k → ((z : ℕ) → chosen p.sets z ≡ mentions c z) → count p.sets ≤ u.shape.sets → n ≡ u.shape.most → p.classes ≤ n → w ≡ 2 ^ count p.sets → Meets wanted k n c p.classes (wide k (chosen p.sets) (entry u.rows.now w)) (accepts u.accept.now) → Stands wanted k u c p
stands_made wanted k u c p n w of mentioned narrow most few width m = record {
  few = subst (λ n. p.classes ≤ n) most few;
  of = of;
  mentioned = mentioned;
  narrow = narrow;
  meets = subst (λ k. Meets wanted k u.shape.most c p.classes (wide k (chosen p.sets) (entry u.rows.now (2 ^ count p.sets))) (accepts u.accept.now)) (sym of)
      (subst (λ n. Meets wanted k n c p.classes (wide k (chosen p.sets) (entry u.rows.now (2 ^ count p.sets))) (accepts u.accept.now)) most
      (subst (λ w. Meets wanted k n c p.classes (wide k (chosen p.sets) (entry u.rows.now w)) (accepts u.accept.now)) width m));
}

-- a part that is read is exact
pub exact_read : (k : ℕ) (s : Sheet) (c : C) (p : Part) → Stands Exact k s c p → (r : WordTable) → Reads s p r → ExactOf k s.shape.most p.sets r c
exact_read k s c p t r h = record {
  of = t.of;
  mentioned = t.mentioned;
  columns = h.sets;
  worked = subst (λ i. Worked i s.shape.most c r.table.classes (wide i (chosen p.sets) (moves r.table)) (accepting r.table)) (sym t.of) (reads_worked k s c p t r h);
}

-- an exact table is what is wanted, whatever that is
pub exact_meets : (wanted : Wanted) (k n : ℕ) (c : C) (m : ℕ) (δ : ℕ → ℕ → ℕ) (f : ℕ → Bool) → Worked k n c m δ f → Meets wanted k n c m δ f
exact_meets Exact k n c m δ f t = t
exact_meets Any k n c m δ f t = record { table = t.table; ordered = t.ordered; fits = t.fits }

pub stands_wanted : (wanted : Wanted) (k : ℕ) (u : Sheet) (c : C) (p : Part) → Stands Exact k u c p → Stands wanted k u c p
stands_wanted wanted k u c p t = record {
  few = t.few;
  of = t.of;
  mentioned = t.mentioned;
  narrow = t.narrow;
  meets = exact_meets wanted p.sets.of u.shape.most c p.classes (wide p.sets.of (chosen p.sets) (entry u.rows.now (2 ^ count p.sets))) (accepts u.accept.now) t.meets;
}

-- Bytes are one claim only, so a result for that claim is one for the bytes.
pub out_of : (wanted : Wanted) (k : ℕ) (d : C) (b : List ℕ) (s u : Sheet) (r : Option Part) → Front k d b [] → Result wanted k s u d r → WorkedOut wanted k b s u r
out_of wanted k d b s u r f y c g = subst (λ t. Result wanted k s u t r) (same_front k k d c b [] [] f g).0 y

-- The two parts of an and may be worked out in either order.
swap_classes : (k n : ℕ) (c d : C) → Top k n (and1 c d) → Top k n (and1 d c)
swap_classes k n c d t =
    let (ws, cl, h) = t in
    (ws, record { columns = cl.columns; differ = λ i j u v p q e. cl.differ i j u v p q (e.1, e.0); all = λ w hw. (let (i, u, e, a) = cl.all w hw in (i, u, e, (a.1, a.0))) }, h)

pub fits_swap : (k n : ℕ) (c d : C) → Fits k n (and1 c d) → Fits k n (and1 d c)
fits_swap k n c d f = (f.1, f.0, swap_classes k n c d f.2)

table_swap : (k : ℕ) (c d : C) (m : ℕ) (δ : ℕ → ℕ → ℕ) (f : ℕ → Bool) → Table k (Of (and1 c d)) m δ f → Table k (Of (and1 d c)) m δ f
table_swap k c d m δ f t = record { connected = t.connected; says = λ w h. (let s = t.says w h in (λ e. ((s.0 e).1, (s.0 e).0), λ l. s.1 (l.1, l.0))) }

meets_swap : (wanted : Wanted) (k n : ℕ) (c d : C) (m : ℕ) (δ : ℕ → ℕ → ℕ) (f : ℕ → Bool) → Meets wanted k n (and1 c d) m δ f → Meets wanted k n (and1 d c) m δ f
meets_swap Exact k n c d m δ f t = record { collapsed = t.collapsed; ordered = t.ordered; fits = fits_swap k n c d t.fits; table = table_swap k c d m δ f t.table }
meets_swap Any k n c d m δ f t = record { ordered = t.ordered; fits = fits_swap k n c d t.fits; table = table_swap k c d m δ f t.table }

or_swap : (a b : Bool) → (a || b) ≡ (b || a)
or_swap true true = refl
or_swap true false = refl
or_swap false true = refl
or_swap false false = refl

pub result_swap : (wanted : Wanted) (k : ℕ) (s u : Sheet) (c d : C) (r : Option Part) → Result wanted k s u (and1 c d) r → Result wanted k s u (and1 d c) r
result_swap wanted k s u c d None y = λ f. y (fits_swap k s.shape.most d c f)
result_swap wanted k s u c d (Some p) y = (
  y.0,
  record {
    few = y.1.few;
    of = y.1.of;
    mentioned = λ z. y.1.mentioned z ∙ or_swap (mentions c z) (mentions d z);
    narrow = y.1.narrow;
    meets = meets_swap wanted p.sets.of u.shape.most c d p.classes (wide p.sets.of (chosen p.sets) (entry u.rows.now (2 ^ count p.sets))) (accepts u.accept.now) y.1.meets;
  },
)

-- Nothing fits into no class at all.
top_none : (k : ℕ) (c : C) → Top k 0 c → ⊥
top_none k c t = let (ws, cl, h) = t in let (i, u, e, a) = cl.all [] tt in let b = nth_below ws i u e in omega arith

pub fits_none : (k : ℕ) (c : C) → Fits k 0 c → ⊥
fits_none k (atom a) f = top_none k (atom a) f
fits_none k (not1 c) f = fits_none k c f
fits_none k (and1 c d) f = fits_none k c f.0
fits_none k (some x c) f = fits_none k c f.0

-- a sheet of the same shape before
pub result_from : (wanted : Wanted) (k : ℕ) (s t u : Sheet) (c : C) (r : Option Part) → t.shape ≡ s.shape → Result wanted k t u c r → Result wanted k s u c r
result_from wanted k s t u c None h y = subst (λ z. Fits k z.most c → ⊥) h y
result_from wanted k s t u c (Some p) h y = (y.0 ∙ h, y.1)

-- a table is exact with other functions that agree with its own on its classes
pub worked_same : (k n : ℕ) (c : C) (m : ℕ) (δ δ' : ℕ → ℕ → ℕ) (f f' : ℕ → Bool) → Worked k n c m δ f → ((q a : ℕ) → q < m → a < 2 ^ k → δ' q a ≡ δ q a) → ((q : ℕ) → q < m → f' q ≡ f q) → Worked k n c m δ' f'
worked_same k n c m δ δ' f f' t leads ends = record {
  table = table_same k (Of c) m δ δ' f f' t.table leads ends;
  ordered = ordered_same k m δ δ' t.table.connected t.ordered leads;
  collapsed = collapsed_same k m δ δ' f f' t.table.connected t.collapsed leads ends;
  fits = t.fits;
}
