use Rattle.std.proofs.Common.{◌≤◌, arith}
use Rattle.row_claims.specs.Reading.{further_sets}
use Rattle.ring_judge.proofs.MadeLaws.{longer_still}
use Rattle.ring_judge.proofs.made.as_row.Goals as goal

pub returns-in-None : goal.returns-in-None
returns-in-None c =
    let (d, f) = c.in-Some.ensures in
    let few : further_sets c.in-Some.sets ≤ 12 = omega arith in
    (c.in-Some.sets, d, f, few, longer_still c.in-Some.sets d (c.in-None.ensures.made d f))
