-- A table that is handed on: joined it is exact, and copied it says what it said.
use Rattle.std.proofs.Common.{◌≡◌, ℕ, ◌<◌, ◌≤◌, Bool, subst, ◌∙◌, sym, ap, ◌^◌}
use Rattle.automata.specs.Joined.{Joined, Written}
use Rattle.automata.specs.Worked.{Shown, Worked}
use Rattle.automata.proofs.Working.{joined_worked, shown_same}
use Rattle.claims.specs.Claims.{C}
use Rattle.minimize.specs.Join.{Minimized}
use Rattle.narrowing.specs.Columns.{size, extract}
use Rattle.narrowing.specs.Wide.{wide}
use Rattle.narrowing.proofs.ColumnsLaws.{extract_below}
use Rattle.narrowing.proofs.WideLaws.{joined_wide, written_wide}
use Rattle.tables.specs.Cells.{entry, accepts}
use Rattle.tables.specs.View.{moves, accepting}
use Rattle.tables.specs.declared.cells.WordTable.{WordTable}
use Rattle.tables.specs.declared.sheet.Sheet.{Sheet}
use Rattle.construct.specs.declared.wanted.Wanted.TheVariants.{Exact, Any}
use Rattle.construct.specs.HandOn.{HandedOn}

-- over narrow columns, joined
joined_narrow : (k n : ℕ) (x : ℕ → Bool) (c : C) (m v : ℕ) (t : ℕ → ℕ → ℕ) (f : ℕ → Bool) → v ≡ size k x → Shown k n c m (wide k x t) f → (cls rep : ℕ → ℕ) (r : ℕ) → Joined v m t f cls rep r → (t' : ℕ → ℕ → ℕ) (f' : ℕ → Bool) → Written v t f cls rep r t' f' → Worked k n c r (wide k x t') f'
joined_narrow k n x c m v t f e h cls rep r j t' f' w =
    joined_worked k n c m (wide k x t) f h cls rep r (joined_wide k x t f m cls rep r (subst (λ v. Joined v m t f cls rep r) e j)) (wide k x t') f' (written_wide k x t f cls rep r t' f' (subst (λ v. Written v t f cls rep r t' f') e w))

module _ (t : WordTable) (s u : Sheet) where
  pub handed_minimized : (r : ℕ) → Minimized t s u r → HandedOn Exact t s u r
  handed_minimized r j = record {
    few = j.few;
    meets = λ k x c e h. joined_narrow k s.shape.most x c t.table.classes t.sets (moves t.table) (accepting t.table) e h j.joins.cls j.joins.rep r j.joins.joined (entry u.rows.now t.table.width) (accepts u.accept.now) j.written;
    shape = j.shape;
  }

  pub handed_copied : u.shape ≡ s.shape → t.table.classes ≤ s.shape.most → ((q a : ℕ) → q < t.table.classes → a < t.table.width → entry u.rows.now t.table.width q a ≡ moves t.table q a) → ((q : ℕ) → q < t.table.classes → accepts u.accept.now q ≡ accepting t.table q) → HandedOn Any t s u t.table.classes
  handed_copied shape few leads ends = record {
    few = few;
    meets = λ k x c e h. shown_same k s.shape.most c t.table.classes (wide k x (moves t.table)) (wide k x (entry u.rows.now t.table.width)) (accepting t.table) (accepts u.accept.now) h
        (λ q a g b. leads q (extract k x a) g (subst (λ w. extract k x a < w) (sym (t.wide ∙ ap (λ v. 2 ^ v) e)) (extract_below k x a))) ends;
    shape = shape;
  }
