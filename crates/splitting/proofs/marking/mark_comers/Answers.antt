use Rattle.std.proofs.Common.{arith}
use Rattle.splitting.proofs.WalksLaws.{walked_start, walked_more, walked_end}
use Rattle.splitting.proofs.marking.mark_comers.Goals as goal

pub loop-e-init : goal.loop-e-init
loop-e-init c = rw c.get-e.ensures (walked_start c.args.column.listed c.args.r.0 c.requires.class c.requires.arranged c.requires.touched)

pub loop-e-preserved : goal.loop-e-preserved
loop-e-preserved c = rw c.get-e-in-loop-e.ensures (walked_more c.args.column.listed c.args.r.0 c.loop-e.e c.loop-e.invariant (omega arith) c.mark-last.ensures)

pub returns : goal.returns
returns c = walked_end c.args.column.listed c.args.r.0 c.loop-e.e c.loop-e.invariant (omega arith)
