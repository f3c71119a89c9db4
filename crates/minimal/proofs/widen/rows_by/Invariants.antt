use Rattle.std.proofs.Common.{◌<◌, length, slice_index}
use Rattle.tables.specs.Cells.{entry}
use Rattle.minimal.proofs.WidenLaws.{Written}
use Rattle.minimal.proofs.widen.rows_by.Given as goal

-- the rows before q are written
abbrev pub invariant-loop-q : goal.invariant-loop-q
invariant-loop-q l = Written l.rows.items (length l.columns) (λ q a. entry l.t.rows.now l.t.width q (slice_index l.columns a)) l.q 0

-- and of row q the places before this one
abbrev pub invariant-loop-column : goal.invariant-loop-column
invariant-loop-column l = (l.q < l.t.classes) × Written l.rows.items (length l.columns) (λ q a. entry l.t.rows.now l.t.width q (slice_index l.columns a)) l.q l.column-index
