use Rattle.std.proofs.Common.{◌≡◌, ◌*◌, true}
use Rattle.tables.specs.Cells.{accepts}
use Rattle.bitsets.specs.Bitrows.{has}
use Rattle.bitsets.proofs.BitrowsLaws.{SomeBelow}
use Rattle.bitsets.proofs.bitrows.meets.Given as goal

-- no class of the words so far accepts
abbrev pub invariant-loop-z : goal.invariant-loop-z
invariant-loop-z l = SomeBelow (λ q. accepts l.accept q ≡ true) (has l.row) (l.z * 32) → ⊥
