use Rattle.std.proofs.Common.{◌≡◌, ◌≤◌, ◌^◌, MatchOption, ◌+◌, get_or, sym, subst, arith}
use native.Mathlib.Decide.{dec_lt}
use Rattle.strengthen.specs.Count.{choices}
use Rattle.strengthen.proofs.CountLaws.{grows, by_the_last}
use Rattle.strengthen.proofs.count.choices_of.Goals as goal

pub returns-in_err-at_most : goal.returns-in_err-at_most
returns-in_err-at_most c =
    let i = c.loop-i._i in
    let m = c.loop-m.m in
    let s = by_the_last i m (get_or c.loop-m.at_most m 0) c.loop-m.fewer (omega arith) (c.loop-m.invariant.high m (omega arith) (omega arith)) c.loop-m.invariant.fewer in
    let g = grows i c.args.n m (omega arith) (omega arith) in
    let large : 2 ^ 64 ≤ choices c.args.n 8 = elim (dec_lt (get_or c.loop-m.at_most m 0 + c.loop-m.fewer) (2 ^ 64)) [
      | yes l ↦ absurd (c.in_err-at_most.ensures l)
      | no l ↦ omega arith
    ] in
    subst (λ r. MatchOption r (2 ^ 64 ≤ choices c.args.n 8) (λ all. all ≡ choices c.args.n 8)) (sym c.from_residual.ensures) large
