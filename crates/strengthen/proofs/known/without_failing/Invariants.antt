use Rattle.std.proofs.Common.{◌≡◌, ◌⊎◌, ℕ, ◌<◌, true, false, length, slice_index_or}
use Rattle.strengthen.specs.declared.marks.Mark.TheVariants.{Fails, Unknown}
use Rattle.strengthen.proofs.known.without_failing.Given as goal

abbrev pub invariant-loop-j : goal.invariant-loop-j
invariant-loop-j l = record {
  many : length l.kept.items ≡ l.j;
  each : (i : ℕ) → i < l.j → slice_index_or l.kept.items i true ≡ false → (slice_index_or l.left i true ≡ false) ⊎ (slice_index_or l.marks i Unknown ≡ Fails);
}
