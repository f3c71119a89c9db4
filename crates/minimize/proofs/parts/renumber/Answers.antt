use Rattle.std.proofs.Common.{get_or, ap, arith}
use Rattle.minimize.proofs.NumberingLaws.{numbering_known, numbering_new, numbering_end}
use Rattle.minimize.proofs.parts.renumber.Goals as goal
use Rattle.minimize.proofs.parts.renumber.Goals.{then-i-count, else-i-count}

pub loop-q-preserved : goal.loop-q-preserved
loop-q-preserved c =
    let k = ap (λ q. get_or c.args.cls.now q 0) c.next-to.ensures.value in
    elim c.if-i-count.branch [
      | then-i-count w ↦ numbering_new c.loop-q.anew c.loop-q.firsts c.loop-q.invariant c.intern-i.ensures k (omega arith) w.if-i-count.true w.firsts-is w.count-is (omega (arith, c.loop-q.invariant.few))
      | else-i-count w ↦ numbering_known c.loop-q.anew c.loop-q.firsts c.loop-q.invariant c.intern-i.ensures k (omega arith) w.if-i-count.false w.firsts-is w.count-is
    ]

pub returns : goal.returns
returns c = numbering_end c.loop-q.invariant (omega arith)
