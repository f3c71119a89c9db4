use Rattle.std.proofs.Common.{◌≡◌, ℕ, ◌<◌, length, slice_index_or}
use Rattle.strengthen.specs.Listed.{claim_at}
use Rattle.strengthen.specs.Marks.{IsMark}
use Rattle.strengthen.specs.declared.marks.Mark.TheVariants.{Unknown}
use Rattle.strengthen.proofs.marks.marks_of.Given as goal

abbrev pub invariant-loop-j : goal.invariant-loop-j
invariant-loop-j l = record {
  many : length l.marks.items ≡ l.j;
  each : (i : ℕ) → i < l.j → IsMark l.given.keeping.now.rule.now.bits (claim_at l.given i) l.row (slice_index_or l.marks.items i Unknown);
}
