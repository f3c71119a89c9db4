use Rattle.std.proofs.Common.{sym}
use Rattle.bitsets.proofs.InternLaws.{first_there, first_past, first_other}
use Rattle.bitsets.proofs.intern.first.Goals as goal
use Rattle.bitsets.proofs.intern.first.Goals.{else-i-n-via-then-i-n+else-buckets-i, else-i-n-via-else-i-n}

pub returns-then-buckets-i : goal.returns-then-buckets-i
returns-then-buckets-i c = sym (first_there c.args.heads.now c.args.buckets.now c.args.n c.args.h c.if-i-n.true c.if-buckets-i.true)

pub returns-else-i-n : goal.returns-else-i-n
returns-else-i-n c = elim c.else-i-n.branch [
  | else-i-n-via-then-i-n+else-buckets-i w ↦ sym (first_other c.args.heads.now c.args.buckets.now c.args.n c.args.h w.if-buckets-i.false)
  | else-i-n-via-else-i-n w ↦ sym (first_past c.args.heads.now c.args.buckets.now c.args.n c.args.h w.if-i-n.false)
]
