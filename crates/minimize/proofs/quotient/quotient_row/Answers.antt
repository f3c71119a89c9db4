use Rattle.std.proofs.Common.{ℕ, ◌<◌, get_or, ap, arith}
use Rattle.tables.specs.Cells.{entry}
use Rattle.minimize.proofs.QuotientLaws.{row_more, row_kept}
use Rattle.minimize.proofs.quotient.quotient_row.Goals as goal

pub loop-a-preserved : goal.loop-a-preserved
loop-a-preserved c =
    let t = c.args.t in
    let cls = c.args.cls.now in
    let to = c.args.to.0 in
    let a = c.loop-a.a in
    let h : a < t.width = omega arith in
    let v = get_or cls c.next-q.result.0 0 in
    let at : ℕ → ℕ = λ b. get_or cls (entry t.rows.now t.width c.args.from.0 b) 0 in (
      row_more c.loop-a.rows c.put.new.rows c.args.most t.width to a v (omega arith) (omega arith) h c.put.ensures at (ap (λ q. get_or cls q 0) c.next-q.ensures.value) c.loop-a.invariant.0,
      row_kept c.loop-a.rows c.put.new.rows c.args.most t.width to a v (omega arith) (omega arith) h c.put.ensures c.args.rows.now c.loop-a.invariant.1,
    )
