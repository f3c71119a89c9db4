use Rattle.std.proofs.Common.{subst}
use Rattle.row_judge.specs.Made.{RowFloor}
use Rattle.ring_judge.proofs.RingLaws.{made_floor, no_floor}
use Rattle.ring_judge.proofs.floor.ring_floor.Goals as goal

pub returns-in-Ok : goal.returns-in-Ok
returns-in-Ok c =
    let (k, d, m) = c.in-Ok.ensures in
    made_floor c.args.claim.now k d c.in-Ok.row m c.args.most c.row_floor.result (subst (λ t. RowFloor t c.args.most c.row_floor.result) c.as_slice.ensures c.row_floor.ensures)

pub returns-in-Err-NoRingClaim : goal.returns-in-Err-NoRingClaim
returns-in-Err-NoRingClaim c = no_floor c.args.claim.now c.args.most _ c.in-Err-NoRingClaim.ensures
