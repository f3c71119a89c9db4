-- From the table of a machine's states over the columns of the claim's own sets, joined, to the
-- exact table of the claim, or that it does not fit.
use Rattle.std.proofs.Common.{◌≡◌, ℕ, ◌^◌, ◌≤◌, true, Option, None, Some, ap, ◌∙◌, subst, MatchOption}
use Rattle.words.specs.Words.{bit}
use Rattle.kinds.specs.Atoms.{sets_of}
use Rattle.kinds.specs.Machines.{Machine, Right}
use Rattle.kinds.specs.Meaning.{OfAtom}
use Rattle.kinds.specs.declared.atom.Atom.{Atom}
use Rattle.automata.proofs.Atoms.{few_reached, many_atom, worked_atom}
use Rattle.automata.specs.Joined.{Joined, Written}
use Rattle.automata.specs.Search.{Explored}
use Rattle.automata.specs.Worked.{Worked}
use Rattle.claims.specs.Claims.{atom}
use Rattle.claims.specs.Sizes.{Fits}
use Rattle.minimize.specs.Join.{TooManyJoined, Minimized}
use Rattle.narrowing.specs.Columns.{extract}
use Rattle.narrowing.specs.Mentioned.{named}
use Rattle.narrowing.specs.Wide.{Sees, wide}
use Rattle.narrowing.proofs.LooksLaws.{looks_sees}
use Rattle.narrowing.proofs.SearchLaws.{explored_wide, too_many_wide}
use Rattle.narrowing.proofs.WideLaws.{joined_wide, written_wide}
use Rattle.selection.specs.Selections.{chosen, count, spread}
use Rattle.selection.specs.declared.selection.Selection.{Selection}
use Rattle.tables.specs.Cells.{entry, accepts}
use Rattle.tables.specs.View.{moves, accepting}
use Rattle.tables.specs.Sheets.{Shows}
use Rattle.tables.specs.declared.cells.WordTable.{WordTable}
use Rattle.tables.specs.declared.sheet.Sheet.{Sheet}
use Rattle.worklist.specs.Search.{Tabled, Excess}
use Rattle.worklist.proofs.SearchLaws.{tabled_sets, tabled_explored, tabled_accepted}
use Rattle.atoms.specs.AtomTable.{Exact}
use Rattle.atoms.specs.States.{reading}

module _ {S : Type 0} (number : S → ℕ) (m : Machine S) (a : Atom) (told : (p q : S) → number p ≡ number q → p ≡ q) (right : Right number m (OfAtom a)) (looks : (q : S) (b c : ℕ) → ((z : ℕ) → named a z ≡ true → bit z b ≡ bit z c) → m.step q b ≡ m.step q c) (sets : Selection) (about : sets_of a ≤ sets.of) (mentioned : (z : ℕ) → chosen sets z ≡ named a z) where
  -- the step that is searched
  abbrev small : S → ℕ → S
  small q j = m.step q (spread sets j)

  -- the table over the columns of all sets for which one over those of the claim's sets stands
  abbrev full : (ℕ → ℕ → ℕ) → ℕ → ℕ → ℕ
  full = wide sets.of (chosen sets)

  -- the machine goes by the columns of the claim's sets alone
  sees : Sees sets.of (extract sets.of (chosen sets)) m.step small
  sees = looks_sees sets.of a (chosen sets) m.step looks about mentioned

  -- no seventeen states are reached
  pub no_excess : (n : ℕ) → n ≡ 16 → Excess (reading sets m) n → ⊥
  no_excess n e x = few_reached number m (OfAtom a) told right sets.of (too_many_wide sets.of (chosen sets) m.step small sees m.start 16 (subst (Excess (reading sets m)) e x))

  module _ {states found : Sheet} (s u : Sheet) {n : ℕ} (x : Tabled (reading sets m) states found n) (same : states.shape.sets ≡ count sets) (t : WordTable) (shows : Shows found n t) where
    columns : t.sets ≡ count sets
    columns = tabled_sets x same t shows

    width : t.table.width ≡ 2 ^ count sets
    width = t.wide ∙ ap (λ v. 2 ^ v) columns

    -- the search and the joining, as if they had been over the columns of all sets
    explored : Explored sets.of m.step m.start t.table.classes x.at (full (moves t.table))
    explored = explored_wide sets.of (chosen sets) m.step small sees m.start t.table.classes x.at (moves t.table) (rw (← columns) (tabled_explored x same t shows))

    joined : (cls rep : ℕ → ℕ) (o : ℕ) → Joined t.sets t.table.classes (moves t.table) (accepting t.table) cls rep o → Joined sets.of t.table.classes (full (moves t.table)) (accepting t.table) cls rep o
    joined cls rep o j = joined_wide sets.of (chosen sets) (moves t.table) (accepting t.table) t.table.classes cls rep o (rw (← columns) j)

    written : (cls rep : ℕ → ℕ) (o : ℕ) → Written t.sets (moves t.table) (accepting t.table) cls rep o (entry u.rows.now t.table.width) (accepts u.accept.now) → Written sets.of (full (moves t.table)) (accepting t.table) cls rep o (full (entry u.rows.now t.table.width)) (accepts u.accept.now)
    written cls rep o w = written_wide sets.of (chosen sets) (moves t.table) (accepting t.table) cls rep o (entry u.rows.now t.table.width) (accepts u.accept.now) (rw (← columns) w)

    pub atom_exact : (r : Option ℕ) → MatchOption r (TooManyJoined t s) (Minimized t s u) → MatchOption r (Fits sets.of s.shape.most (atom a) → ⊥) (Exact sets s u (atom a))
    atom_exact None y = many_atom number m a told right sets.of s.shape.most t.table.classes x.at (full (moves t.table)) (accepting t.table) explored (tabled_accepted x same t shows) y.joins.cls y.joins.rep y.count (joined y.joins.cls y.joins.rep y.count y.joins.joined) y.many
    atom_exact (Some o) y = record {
      few = y.few;
      worked = subst (λ w. Worked sets.of s.shape.most (atom a) o (full (entry u.rows.now w)) (accepts u.accept.now)) width (worked_atom number m a told right sets.of s.shape.most t.table.classes x.at (full (moves t.table)) (accepting t.table) explored (tabled_accepted x same t shows) y.joins.cls y.joins.rep o (joined y.joins.cls y.joins.rep o y.joins.joined) (full (entry u.rows.now t.table.width)) (accepts u.accept.now) (written y.joins.cls y.joins.rep o y.written) y.few);
      shape = y.shape;
    }
