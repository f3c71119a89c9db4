use Rattle.std.proofs.Common.{ℕ, ◌≡◌, ◌<◌, get_or, arith}
use Rattle.tables.specs.Cells.{entry}
use Rattle.splitting.proofs.WalksLaws.{grown_none, grown_member}
use Rattle.splitting.proofs.marking.mark_column.Goals as goal

pub loop-i-init : goal.loop-i-init
loop-i-init c = grown_none (λ q. (j : ℕ) × (j < 0) × (get_or c.args.splitter.members.now j 0 ≡ entry c.args.column.table.rows.now c.args.column.table.width q c.args.column.number)) c.requires.arranged c.requires.touched (λ p h e. (let (j, l, s) = e in omega arith))

pub loop-i-preserved : goal.loop-i-preserved
loop-i-preserved c = grown_member c.args.splitter.members.now (λ q. entry c.args.column.table.rows.now c.args.column.table.width q c.args.column.number) c.loop-i.i c.loop-i.invariant c.mark_comers-tail.ensures

pub returns : goal.returns
returns c = let e : c.loop-i.i ≡ c.args.splitter.size = omega arith in rw (← e) c.loop-i.invariant
