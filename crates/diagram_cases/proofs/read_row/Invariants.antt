use Rattle.std.proofs.Common.{◌≡◌, vec_len}
use Rattle.diagram_cases.proofs.read_row.Given as goal

abbrev pub invariant-loop-place : goal.invariant-loop-place
invariant-loop-place l = vec_len l.row ≡ l.place
