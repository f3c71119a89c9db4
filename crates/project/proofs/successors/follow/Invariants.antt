use Rattle.tables.specs.Cells.{entry}
use Rattle.live.specs.Dead.{lives}
use Rattle.project.specs.Successors.{Leads}
use Rattle.project.proofs.SuccessorsLaws.{Followed}
use Rattle.project.proofs.successors.follow.Given as goal

abbrev pub invariant-loop-z : goal.invariant-loop-z
invariant-loop-z l = Followed (Leads (entry l.p.t.table.rows.now l.p.t.table.width) (lives l.p.t.table.classes l.p.dead) l.a l.b) l.p.w l.i l.to l.initial.sets l.sets l.z
