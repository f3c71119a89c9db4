use Rattle.std.proofs.Common.{◌≡◌, ℕ, ◌<◌, None, IfSome, length, slice_index_or}
use Rattle.strengthen.specs.Listed.{claim_at}
use Rattle.strengthen.specs.Marks.{Recognizes}
use Rattle.strengthen.proofs.table.tables_of.Given as goal

abbrev pub invariant-loop-j : goal.invariant-loop-j
invariant-loop-j l = record {
  many : length l.tables.items ≡ l.j;
  each : (i : ℕ) → i < l.j → IfSome (slice_index_or l.tables.items i None) (Recognizes l.given.keeping.now.rule.now.bits (claim_at l.given i));
}
