use Rattle.std.proofs.Common.{◌≡◌, ap, arith}
use Rattle.worklist.proofs.SearchLaws.{going_row}
use Rattle.worklist.proofs.explore.row.Goals as goal

pub returns : goal.returns
returns g c =
    let e = c.loop-a.invariant in
    let s = e.advanced in
    let wide : c.loop-a.t.shape.width ≡ c.args.t.now.shape.width = ap (λ s. s.width) s.same.shape in
    record { advanced = record { more = s.more; same = s.same; going = going_row s.going (omega arith) }; kept = e.kept }
