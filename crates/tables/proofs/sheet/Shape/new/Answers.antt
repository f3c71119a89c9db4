use Rattle.std.proofs.Common.{◌≡◌, ◌*◌, ◌%◌, ◌^◌, ◌≤◌, arith, pow_pos, pow_mono}
use Rattle.std.proofs.lemmas.Nat.{one_shl}
use Rattle.tables.proofs.sheet.Shape.new.Goals as goal

pub invariant_of-result : goal.invariant_of-result
invariant_of-result c =
    let k = c.args.sets in
    let e : (1 * 2 ^ k) % 2 ^ 64 ≡ 2 ^ k = one_shl k 64 (omega arith) in
    let few : 2 ^ k ≤ 2 ^ 12 = pow_mono c.requires.sets in
    let some = pow_pos k in
    record { wide = e; narrow = c.requires.sets; columns = (omega arith, omega arith); few = c.requires.few }
