-- What the steps of a search keep.
use Rattle.std.proofs.Common.{◌≡◌, ℕ, suc, ◌+◌, ◌^◌, ◌<◌, ◌≤◌, List, sym, refl, ap, ◌∙◌, subst, inl, inr, add-one, arith}
use Rattle.automata.specs.Search.{Explored}
use Rattle.tables.specs.Cells.{entry, put_entry, accepts}
use Rattle.tables.specs.Search.{Searching}
use Rattle.tables.proofs.SearchLaws.{searching_start, searching_row, searching_old, searching_new, searching_many, searching_end}
use Rattle.worklist.specs.Search.{Automaton, Memory, Begun, Followed, Grown, Going, Same, Tabled, Excess}
use Rattle.tables.specs.declared.cells.WordTable.{WordTable}
use Rattle.tables.specs.View.{moves, accepting}
use Rattle.tables.specs.declared.sheet.Sheet.{Sheet}
use Rattle.tables.specs.Sheets.{Shows}

-- what a search says depends on the things found only
searching_at : {S : Type 0} {k : ℕ} {step : S → ℕ → S} {s : S} {n : ℕ} {at at' : ℕ → S} {rows : List ℕ} {width i a : ℕ} → ((j : ℕ) → j < n → at' j ≡ at j) → Searching k step s n at rows width i a → Searching k step s n at' rows width i a
searching_at {step = step} {rows = rows} {width = width} same f =
    let x = f.so_far in
    record {
      ws = f.ws;
      so_far = record {
        start = x.start;
        first = same 0 x.start ∙ x.first;
        empty = x.empty;
        columns = x.columns;
        comes = λ j h. x.comes j h ∙ sym (same j h);
        differ = λ p q h g e. x.differ p q h g (sym (same p h) ∙ e ∙ same q g);
        steps = λ p b o h g. (let (d, e, l) = x.steps p b o h g in (d, same (entry rows width p b) d ∙ e ∙ ap (λ t. step t b) (sym (same p h)), l));
        born = x.born;
        sorted = x.sorted;
      };
    }

-- the start alone is found
pub going_start : {S : Type 0} {x y : Memory S} {t : Sheet} → Begun x y → x.automaton.sets ≡ t.shape.sets → 0 < t.shape.most → t.shape.most < x.room → Going y t 1 0 0
going_start {x = x} {y = y} {t = t} b e some r = record {
  sets = rw b.automaton e;
  room = rw b.room r;
  holds = b.holds;
  few = omega arith;
  searching = searching_start y.automaton.sets y.automaton.step y.automaton.start t.shape.width (rw b.automaton (t.shape.wide ∙ ap (λ k. 2 ^ k) (sym e))) y.at t.rows.now (rw b.automaton b.first);
}

module _ {S : Type 0} {x : Memory S} {t : Sheet} {m i a : ℕ} (g : Going x t m i a) where
  wide : t.shape.width ≡ 2 ^ x.automaton.sets
  wide = t.shape.wide ∙ ap (λ k. 2 ^ k) (sym g.sets)

  pub going_column : a < t.shape.width → a < 2 ^ x.automaton.sets
  going_column h = omega (arith, wide)

  -- past its last column a row is done
  pub going_row : a ≡ t.shape.width → Going x t m (i + 1) 0
  going_row e = record {
    sets = g.sets;
    room = g.room;
    holds = g.holds;
    few = g.few;
    searching = rw add-one (searching_row x.automaton.sets x.automaton.step x.automaton.start t.shape.width wide m x.at t.rows.now i
        (subst (Searching x.automaton.sets x.automaton.step x.automaton.start m x.at t.rows.now t.shape.width i) e g.searching));
  }

  -- past its last row the search is over
  pub going_end : i ≡ m → a ≡ 0 → Explored x.automaton.sets x.automaton.step x.automaton.start m x.at (entry t.rows.now t.shape.width)
  going_end e z = searching_end x.automaton.sets x.automaton.step x.automaton.start t.shape.width wide m x.at t.rows.now
      (subst (λ i. Searching x.automaton.sets x.automaton.step x.automaton.start m x.at t.rows.now t.shape.width i 0) e
      (subst (Searching x.automaton.sets x.automaton.step x.automaton.start m x.at t.rows.now t.shape.width i) z g.searching))

  module _ (hi : i < m) (ha : a < t.shape.width) where
    -- a column leads where one before it leads
    pub going_twin : {b : ℕ} (u : Sheet) → b < a → x.automaton.step (x.at i) b ≡ x.automaton.step (x.at i) a → u.rows.now ≡ put_entry t.rows.now t.shape.width i a (entry t.rows.now t.shape.width i b) → u.shape ≡ t.shape → Going x u m i (a + 1)
    going_twin {b} u h e er es =
        let (d, o, _) = g.searching.so_far.steps i b (inr (refl, h)) hi (omega (arith, wide)) in
        record {
          sets = rw es g.sets;
          room = rw es g.room;
          holds = g.holds;
          few = rw es g.few;
          searching = rw (er, es, add-one) (searching_old x.automaton.sets x.automaton.step x.automaton.start t.shape.width wide t.shape.most m x.at t.rows.now i a g.searching hi ha g.few t.rows_fit (entry t.rows.now t.shape.width i b) d (o ∙ e));
        }

    module _ {y : Memory S} {j : ℕ} (f : Followed x y m i a j) where
      pub new_number : m ≤ j → j ≡ m
      new_number n = elim f.old_or_new [ inl h ↦ (let z : ⊥ = omega arith in absurd z) | inr h ↦ h.0 ]

      pub going_many : j ≡ t.shape.most → Excess x.automaton t.shape.most
      going_many e = elim f.old_or_new [
        | inl h ↦ (let z : ⊥ = omega (arith, g.few) in absurd z)
        | inr h ↦ searching_many x.automaton.sets x.automaton.step x.automaton.start t.shape.width wide t.shape.most m x.at t.rows.now i a g.searching hi ha g.few t.rows_fit y.at h.1 (subst (λ z. y.at z ≡ x.automaton.step (x.at i) a) h.0 f.here) f.kept (sym h.0 ∙ e)
      ]

      searching_next : (n : ℕ) → Grown m j n → Searching x.automaton.sets x.automaton.step x.automaton.start n y.at (put_entry t.rows.now t.shape.width i a j) t.shape.width i (suc a)
      searching_next n (inl h) = rw h.1 (searching_old x.automaton.sets x.automaton.step x.automaton.start t.shape.width wide t.shape.most m y.at t.rows.now i a (searching_at f.kept g.searching) hi ha g.few t.rows_fit j h.0 (f.here ∙ ap (λ z. x.automaton.step z a) (sym (f.kept i hi))))
      searching_next n (inr h) = elim f.old_or_new [
        | inl l ↦ (let z : ⊥ = omega (arith, h.0) in absurd z)
        | inr l ↦ rw (h.1, h.0, add-one m) (searching_new x.automaton.sets x.automaton.step x.automaton.start t.shape.width wide t.shape.most m x.at t.rows.now i a g.searching hi ha g.few t.rows_fit y.at l.1 (subst (λ z. y.at z ≡ x.automaton.step (x.at i) a) h.0 f.here) f.kept)
      ]

      pub going_next : (u : Sheet) (n : ℕ) → n ≤ t.shape.most → Grown m j n → u.rows.now ≡ put_entry t.rows.now t.shape.width i a j → u.shape ≡ t.shape → Going y u n i (a + 1)
      going_next u n few h er es = record {
        sets = rw (f.automaton, es) g.sets;
        room = rw (f.room, es) g.room;
        holds = f.holds n h;
        few = rw es few;
        searching = rw (f.automaton, er, es, add-one) (searching_next n h);
      }

-- the search is over, and its things are marked
pub tabled : {S : Type 0} {x y : Memory S} {t u : Sheet} {m : ℕ} (v : Sheet) → Same x y t u → Going y u m m 0 → v.rows.now ≡ u.rows.now → Same y y u v → ((j : ℕ) → j < m → accepts v.accept.now j ≡ y.automaton.accepts (y.at j)) → Tabled x.automaton t v m
tabled {y = y} v s g er r marked = record {
  at = y.at;
  few = rw (← s.shape) g.few;
  explored = rw (er, ← s.automaton, ← s.shape) (going_end g refl refl);
  accepted = rw (← s.automaton) marked;
  shape = r.shape ∙ s.shape;
  rows = r.rows ∙ s.rows;
  accept = r.accept ∙ s.accept;
}

-- what the table that stands on a sheet is read as
module _ {S : Type 0} {x : Automaton S} {t u : Sheet} {m : ℕ} (y : Tabled x t u m) (e : t.shape.sets ≡ x.sets) (r : WordTable) (s : Shows u m r) where
  pub tabled_sets : r.sets ≡ x.sets
  tabled_sets = s.sets ∙ ap (λ z. z.sets) y.shape ∙ e

  pub tabled_explored : Explored r.sets x.step x.start r.table.classes y.at (moves r.table)
  tabled_explored = rw (tabled_sets, s.classes, s.width, s.rows, y.shape) y.explored

  pub tabled_accepted : (i : ℕ) → i < r.table.classes → accepting r.table i ≡ x.accepts (y.at i)
  tabled_accepted = rw (s.classes, s.accept) y.accepted
