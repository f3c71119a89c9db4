use Rattle.std.proofs.Common.{arith}
use Rattle.row_judge.proofs.MadeLaws.{fits_call}
use Rattle.row_judge.proofs.made.claim_without.Goals as goal

pub returns-in-Some-claim_of : goal.returns-in-Some-claim_of
returns-in-Some-claim_of c =
    let (d, f) = c.in-Some.ensures in
    let e = c.in-Some-claim_of.ensures.made d f in
    (d, fits_call c.args.claim.now c.in-Some.sets d f (omega arith) c.in-Some-claim_of.made e c.in-Some-claim_of.ensures.few, e)
