use Rattle.std.proofs.Common.{arith}
use Rattle.tables.specs.Cells.{entry, accepts}
use Rattle.live.proofs.BeyondLaws.{marking_end}
use Rattle.live.proofs.beyond.beyond.Goals as goal

pub returns : goal.returns
returns c =
    let t = c.args.t.table in
    marking_end c.args.x.0 t.classes (entry t.rows.now t.width) (accepts t.accept.now) c.args.t.sets c.loop-i.completed c.loop-i.queue c.loop-i.tail c.loop-i.i
    (λ q b h g. t.below q b h (omega arith)) c.requires.set c.loop-i.invariant c.loop-i-test.false
