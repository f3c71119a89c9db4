use Rattle.std.proofs.Common.{◌≡◌, ◌+◌, ◌≤◌, true, ◌↔◌, length}
use Rattle.tables.specs.Cells.{accepts}
use Rattle.bitsets.specs.Bitrows.{SomeBit, BitsBelow}
use Rattle.bitsets.proofs.bitrows.meets_word.Given as goal

-- the bits that are left, from class q on, say the same as the word did
abbrev pub invariant-loop-left : goal.invariant-loop-left
invariant-loop-left l = BitsBelow (length l.accept) l.q l.left × (l.q + l.left ≤ l.from + l.word) × (SomeBit (λ q. accepts l.accept q ≡ true) l.q l.left ↔ SomeBit (λ q. accepts l.accept q ≡ true) l.from l.word)

abbrev pub decreases-loop-left : goal.decreases-loop-left
decreases-loop-left l = l.left
