use Rattle.std.proofs.Common.{arith}
use Rattle.workspace.proofs.PartLaws.{is_read, read_claim}
use Rattle.workspace.proofs.extent.extent_of.Goals as goal

pub returns-in_err-part : goal.returns-in_err-part
returns-in_err-part c =
    let (d, y) = c.in_ok-sets.ensures.said in
    let z : ⊥ = is_read c.args.claim.now c.in_ok-sets.sets d y c.in_err-part.ensures in
    absurd z

pub overflow_cast-result : goal.overflow_cast-result
overflow_cast-result c =
    let (d, y) = c.in_ok-sets.ensures.said in
    let (e, f) = c.in_ok-part.ensures in
    let (w, l, m) = read_claim c.args.claim.now c.in_ok-sets.sets d e c.in_ok-part.part y f in
    omega arith

pub invariant_of-result : goal.invariant_of-result
invariant_of-result c =
    let (d, y) = c.in_ok-sets.ensures.said in
    let (e, f) = c.in_ok-part.ensures in
    let (w, l, m) = read_claim c.args.claim.now c.in_ok-sets.sets d e c.in_ok-part.part y f in
    record { few = m; within = l }

pub returns : goal.returns
returns c =
    let (d, y) = c.in_ok-sets.ensures.said in
    let (e, f) = c.in_ok-part.ensures in
    let (w, l, m) = read_claim c.args.claim.now c.in_ok-sets.sets d e c.in_ok-part.part y f in
    record { said = (d, y, w) }
