use Rattle.std.proofs.Common.{sym, arith}
use Rattle.std.proofs.lemmas.Bool.{true≢false}
use Rattle.words.proofs.OrderLaws.{same_all}
use Rattle.strengthen.proofs.BeforeLaws.{by_length, by_number, same_words}
use Rattle.strengthen.proofs.before.is_less.Goals as goal

pub returns-then-u-v : goal.returns-then-u-v
returns-then-u-v c = by_length c.args.u.now c.args.v.now c.if-u-v.true

pub returns-then-u-i : goal.returns-then-u-i
returns-then-u-i c = by_number c.args.u.now c.args.v.now c.loop-i.i c.loop-i.invariant.0 (omega arith) c.loop-i.invariant.1 c.if-u-i.true

pub returns : goal.returns
returns c =
    let same = same_all c.args.u.now c.args.v.now c.loop-i.invariant.0 (λ j h. c.loop-i.invariant.1 j (omega arith)) in
    (λ e. absurd (true≢false (sym e)), λ l. absurd (same_words c.args.u.now c.args.v.now same l))
