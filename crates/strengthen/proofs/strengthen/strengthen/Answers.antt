use Rattle.std.proofs.Common.{◌≡◌, zero, false, true, length, sym, ◌∙◌, arith}
use Rattle.strengthen.proofs.GoingLaws.{rising_below}
use Rattle.strengthen.proofs.ListedLaws.{any_default}
use Rattle.strengthen.proofs.strengthen.strengthen.Goals as goal

-- no choice is kept that has the claim itself, and each has it
pub returns-then-not-index : goal.returns-then-not-index
returns-then-not-index g c = λ js h k.
    (let known = c.in_ok-narrow.ensures.known in
    let n = length c.args.given.helpers.now in
    let own = any_default c.narrow.new.known.left.items 0 true c.index.result.now (omega (arith, known.many_left)) ∙ sym c.index.ensures ∙ c.if-not-index.true in
    known.left 0 (omega arith) own js (rising_below 0 n js h.0) tt k)
