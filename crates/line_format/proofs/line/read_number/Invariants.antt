use Rattle.std.proofs.Common.{ℕ, ◌^◌, ◌<◌, ◌↔◌, length}
use Rattle.line_format.specs.Line.{Decimal}
use Rattle.line_format.proofs.line.read_number.Given as goal

-- what the digits that are left write from n on is what all digits write
abbrev pub invariant-loop-rest : goal.invariant-loop-rest
invariant-loop-rest l = (l.n < 2 ^ 32) × ((m : ℕ) → Decimal l.n l.rest m ↔ Decimal 0 l.digits m)

abbrev pub decreases-loop-rest : goal.decreases-loop-rest
decreases-loop-rest l = length l.rest
