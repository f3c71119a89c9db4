-- A part's table on a sheet, as it is wanted, over the columns of the sets that the part mentions.
use Rattle.std.specs.Prelude.{◌≡◌, ℕ, ◌^◌, ◌≤◌, Bool, Option, MatchOption}
use Rattle.claims.specs.Claims.{C}
use Rattle.claims.specs.Sizes.{Fits}
use Rattle.automata.specs.Worked.{Shown, Worked}
use Rattle.narrowing.specs.Mentioned.{mentions}
use Rattle.narrowing.specs.Wide.{wide}
use Rattle.selection.specs.Selections.{chosen, count}
use Rattle.selection.specs.declared.selection.Selection.{Selection}
use Rattle.tables.specs.Cells.{entry, accepts}
use Rattle.tables.specs.View.{moves, accepting}
use Rattle.tables.specs.declared.cells.WordTable.{WordTable}
use Rattle.tables.specs.declared.sheet.Sheet.{Sheet}
use Rattle.construct.specs.declared.part.Part.{Part}
use Rattle.construct.specs.declared.wanted.Wanted.{Wanted}
use Rattle.construct.specs.declared.wanted.Wanted.TheVariants.{Exact, Any}

-- a table as it is wanted of claim c: exact, or any that says the claim
abbrev pub Meets : Wanted → ℕ → ℕ → C → ℕ → (ℕ → ℕ → ℕ) → (ℕ → Bool) → Type 0
Meets Exact k n c m δ f = Worked k n c m δ f
Meets Any k n c m δ f = Shown k n c m δ f

-- the part is claim c about k sets, and its sets are those that the claim mentions; such a table of
-- the claim is the one for which the table stands that is on the sheet, in rows of as many columns
-- as its own sets have
pub record Stands (wanted : Wanted) (k : ℕ) (s : Sheet) (c : C) (p : Part) : Type 0 where
  pub few : p.classes ≤ s.shape.most
  pub of : p.sets.of ≡ k
  pub mentioned : (z : ℕ) → chosen p.sets z ≡ mentions c z
  pub narrow : count p.sets ≤ s.shape.sets
  pub meets : Meets wanted p.sets.of s.shape.most c p.classes (wide p.sets.of (chosen p.sets) (entry s.rows.now (2 ^ count p.sets))) (accepts s.accept.now)

-- a table over the columns of these sets, which are those that claim c about k sets mentions, is the
-- claim's exact one
pub record ExactOf (k n : ℕ) (sets : Selection) (t : WordTable) (c : C) : Type 0 where
  pub of : sets.of ≡ k
  pub mentioned : (z : ℕ) → chosen sets z ≡ mentions c z
  pub columns : t.sets ≡ count sets
  pub worked : Worked sets.of n c t.table.classes (wide sets.of (chosen sets) (moves t.table)) (accepting t.table)

-- what became of a sheet that was s and is u: claim c about k sets does not fit, or its table
-- stands there
abbrev pub Result : Wanted → ℕ → Sheet → Sheet → C → Option Part → Type 0
Result wanted k s u c r = MatchOption r (Fits k s.shape.most c → ⊥) (λ p. (u.shape ≡ s.shape) × Stands wanted k u c p)

-- the table of a part, read from the sheet
pub record Reads (s : Sheet) (p : Part) (t : WordTable) : Type 0 where
  pub classes : t.table.classes ≡ p.classes
  pub sets : t.sets ≡ count p.sets
  pub rows : t.table.rows.now ≡ s.rows.now
  pub accept : t.table.accept.now ≡ s.accept.now
