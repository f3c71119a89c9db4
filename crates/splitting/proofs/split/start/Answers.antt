use Rattle.std.proofs.Common.{arith}
use Rattle.tables.specs.Cells.{entry, accepts}
use Rattle.splitting.proofs.PlacesLaws.{touched_none}
use Rattle.splitting.proofs.SplitLaws.{waiting_start}
use Rattle.splitting.proofs.split.start.Goals as goal

pub mark_accepting-tail-requires-clause-touched : goal.mark_accepting-tail-requires-clause-touched
mark_accepting-tail-requires-clause-touched c = touched_none c.args.marks.now.touched.now c.arrange.ensures.clean (omega arith)

pub returns-clause-waiting : goal.returns-clause-waiting
returns-clause-waiting c = waiting_start c.arrange.ensures.arranged c.arrange.ensures.clean c.mark_accepting-tail.ensures c.cut_touched.ensures.cutting c.cut_touched.ensures.clean c.args.t.sets (entry c.args.t.table.rows.now c.args.t.table.width) (accepts c.args.t.table.accept.now) c.arrange.ensures.part (omega (arith, c.arrange.ensures.one)) (λ q h. (λ e. e, λ e. e))

pub returns-clause-room : goal.returns-clause-room
returns-clause-room c = rw c.cut_touched.ensures.touched c.mark_accepting-tail.ensures.touched.fits
