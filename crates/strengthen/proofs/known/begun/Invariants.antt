use Rattle.std.proofs.Common.{◌≡◌, ℕ, ◌<◌, true, false, length, slice_index_or}
use Rattle.strengthen.specs.Known.{Begins, Without}
use Rattle.strengthen.proofs.known.begun.Given as goal

abbrev pub invariant-loop-j : goal.invariant-loop-j
invariant-loop-j g l = record {
  many_begin : length l.begins.items ≡ l.j;
  many_left : length l.left.items ≡ l.j;
  begin : (i : ℕ) → i < l.j → slice_index_or l.begins.items i false ≡ true → Begins l.given i;
  left : (i : ℕ) → i < l.j → slice_index_or l.left.items i true ≡ false → Without l.given i;
}
