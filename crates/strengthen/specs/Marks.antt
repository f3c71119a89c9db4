-- Of which claims of a list it is known that they hold of a row.
use Rattle.std.specs.Prelude.{◌≡◌, ℕ, suc, ◌<◌, ◌≤◌, true, Option, None, List, IfSome, length, slice_index_or, ◌↔◌}
use Rattle.words.specs.Words.{Word, Columns}
use Rattle.words.specs.Runs.{run}
use Rattle.formulas.specs.declared.formula.Formula.{Formula}
use Rattle.keeping.specs.Kept.{OfRow}
use Rattle.minimal.specs.View.{states, leads, accepts}
use Rattle.minimal.specs.declared.automaton.Automaton.{Automaton}
use Rattle.rows.specs.RowClaims.{marked}
use Rattle.rows.specs.Rows.{step}
use Rattle.strengthen.specs.Listed.{claim_at}
use Rattle.strengthen.specs.declared.listed.Listed.{Listed}
use Rattle.strengthen.specs.declared.marks.Mark.{Mark}
use Rattle.strengthen.specs.declared.marks.Mark.TheVariants as mark
use Rattle.strengthen.specs.declared.refutation.Refutation.{Refutation}

-- the automaton accepts exactly the rows of which d holds, where a further bit says of each place that it has a module
pub record Recognizes (b : ℕ) (d : Formula) (t : Automaton) : Type 0 where
  pub sets : b < t.sets
  pub start : 0 < states t
  pub says : (w : Word) → Columns b w → (accepts t (run (leads t) 0 (marked b w)) ≡ true) ↔ OfRow b d w

-- there is one for each claim, or none
pub record AreTables (g : Listed) (ts : List (Option Automaton)) : Type 0 where
  pub many : length ts ≡ suc (length g.helpers.now)
  pub each : (j : ℕ) → j ≤ length g.helpers.now → IfSome (slice_index_or ts j None) (Recognizes g.keeping.now.rule.now.bits (claim_at g j))

-- what the mark says of the row
abbrev pub IsMark : ℕ → Formula → Word → Mark → Type 0
IsMark b d w mark.Holds = OfRow b d w
IsMark b d w mark.Fails = OfRow b d w → ⊥
IsMark b d w mark.Unknown = Unit {0}

-- there is a mark for each claim
pub record AreMarks (g : Listed) (w : Word) (ms : List Mark) : Type 0 where
  pub many : length ms ≡ suc (length g.helpers.now)
  pub each : (j : ℕ) → j ≤ length g.helpers.now → IsMark g.keeping.now.rule.now.bits (claim_at g j) w (slice_index_or ms j mark.Unknown)

-- the marks are those of some row, and of the row after it
pub record IsRefutation (g : Listed) (r : Refutation) : Type 0 where
  pub row : Word
  pub columns : Columns g.keeping.now.rule.now.bits row
  pub before : AreMarks g row r.before.items
  pub after : AreMarks g (step g.keeping.now.rule.now.layout g.keeping.now.rule.now.bits g.keeping.now.rule.now.table.items row) r.after.items
