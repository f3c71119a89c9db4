use Rattle.std.proofs.Common.{◌≡◌, ℕ, ◌%◌, List, ◌++◌, length, vec_items}
use Rattle.line_format.specs.Line.{Pairs}
use Rattle.line_format.proofs.line.read_bytes.Given as goal

-- the bytes so far and those that the digits left write are what all digits write; and where all digits write bytes, those that are left do
abbrev pub invariant-loop-rest : goal.invariant-loop-rest
invariant-loop-rest l = (length l.rest % 2 ≡ 0) × ((t : List ℕ) → Pairs l.rest t → Pairs l.field (vec_items l.bytes ++ t)) × ((t : List ℕ) → Pairs l.field t → (r : List ℕ) × Pairs l.rest r)

abbrev pub decreases-loop-rest : goal.decreases-loop-rest
decreases-loop-rest l = length l.rest
