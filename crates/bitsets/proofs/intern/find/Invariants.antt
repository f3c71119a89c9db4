use Rattle.bitsets.proofs.InternLaws.{Walk}
use Rattle.bitsets.proofs.intern.find.Given as goal

abbrev pub invariant-loop-next : goal.invariant-loop-next
invariant-loop-next l = Walk l.sets l.w l.n l.buckets l.h l.next

abbrev pub decreases-loop-next : goal.decreases-loop-next
decreases-loop-next l = l.next
