use Rattle.std.proofs.Common.{get_or, refl}
use Rattle.tables.specs.Cells.{entry, accepts}
use Rattle.live.proofs.BeyondLaws.{marking_more}
use Rattle.live.proofs.beyond.mark_behind.Goals as goal

pub returns : goal.returns
returns c =
    let b = c.args.behind in
    let t = b.table in
    marking_more b.x.0 t.classes (entry t.rows.now t.width) (accepts t.accept.now) c.args.marks.now c.args.queue.now c.args.tail c.args.i b.with_x (get_or c.args.queue.now c.args.i 0)
    c.mark_comers-more.new.marks c.mark_comers-more.new.queue c.mark_comers-more.result c.mark_comers.new.marks c.mark_comers.new.queue c.mark_comers.result c.requires.marking c.requires.place
    b.column refl c.mark_comers-more.ensures c.mark_comers.ensures
