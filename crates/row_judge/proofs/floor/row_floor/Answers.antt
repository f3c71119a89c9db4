use Rattle.std.proofs.Common.{◌∙◌}
use Rattle.row_judge.proofs.JudgedLaws.{asked_floor, no_floor}
use Rattle.row_judge.proofs.floor.row_floor.Goals as goal

pub returns-in-Ok : goal.returns-in-Ok
returns-in-Ok c =
    let (d, a, e) = c.in-Ok.ensures in
    (asked_floor c.args.claim.now _ d a c.args.most c.floor.result c.from.result c.as_slice.result.now (c.as_slice.ensures ∙ e) c.floor.ensures.value c.from.ensures).floor

pub returns-in-Err-NoRowClaim : goal.returns-in-Err-NoRowClaim
returns-in-Err-NoRowClaim c = no_floor c.args.claim.now c.args.most _ c.in-Err-NoRowClaim.ensures
