use Rattle.std.proofs.Common.{◌+◌, ◌≤◌}
use Rattle.tables.specs.Cells.{entry}
use Rattle.bitsets.specs.Bitrows.{has, BitsBelow}
use Rattle.live.specs.Dead.{lives}
use Rattle.project.specs.Successors.{Leads}
use Rattle.project.proofs.SuccessorsLaws.{Ahead}
use Rattle.project.proofs.successors.follow_word.Given as goal

-- what the row has by now, and what follows the bits that are left, is what it had and what follows
-- the word
abbrev pub invariant-loop-left : goal.invariant-loop-left
invariant-loop-left l = BitsBelow l.p.t.table.classes l.q l.left × (l.q + l.left ≤ l.from + l.word) × Ahead (Leads (entry l.p.t.table.rows.now l.p.t.table.width) (lives l.p.t.table.classes l.p.dead) l.a l.b) (has l.initial.row) l.from l.word (has l.row) l.q l.left

abbrev pub decreases-loop-left : goal.decreases-loop-left
decreases-loop-left l = l.left
