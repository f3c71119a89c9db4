use Rattle.std.proofs.Common.{false}
use Rattle.live.specs.Dead.{lives}
use Rattle.tables.specs.Cells.{entry}
use Rattle.project.proofs.SubsetsLaws.{put_is, put_le, step_copied}
use Rattle.project.proofs.subsets.SetsFrontier.twin.Goals as goal

pub returns-clause-before : goal.returns-clause-before
returns-clause-before c =
    let x = c.args.self.now.part.x.0 in
    rw (put_is x c.args.a c.without_bit.result false c.without_bit.ensures.here c.without_bit.ensures.others) (put_le x c.args.a)

pub returns-clause-alike : goal.returns-clause-alike
returns-clause-alike c X =
    let p = c.args.self.now.part in
    rw (put_is p.x.0 c.args.a c.without_bit.result false c.without_bit.ensures.here c.without_bit.ensures.others) (step_copied p.t.table.classes (entry p.t.table.rows.now p.t.table.width) (lives p.t.table.classes p.dead) p.x.0 X c.args.a)
