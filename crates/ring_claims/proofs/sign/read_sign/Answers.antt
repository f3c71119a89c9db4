use Rattle.ring_claims.proofs.SignLaws.{none_of_ring}
use Rattle.ring_claims.proofs.sign.read_sign.Goals as goal

pub returns-in_err-sign-2 : goal.returns-in_err-sign-2
returns-in_err-sign-2 c = rw c.from_residual-in_err-sign-2.ensures (none_of_ring c.in_ok-sign.sign c.in_ok-sign.rest.now c.args.bytes.now c.in_ok-sign.ensures c.in_err-sign-2.ensures)
