use Rattle.std.proofs.Common.{◌≡◌, ℕ, ◌<◌, length, slice_index}
use Rattle.selection.specs.Selections.{narrow}
use Rattle.minimal.proofs.widen.narrow_columns.Given as goal

-- the columns before a are there
abbrev pub invariant-loop-a : goal.invariant-loop-a
invariant-loop-a l = record { many : length l.columns.items ≡ l.a; narrow : (j : ℕ) → j < l.a → slice_index l.columns.items j ≡ narrow l.sets j }
