use Rattle.std.proofs.Common.{◌+◌, IsTrue, drop, arith}
use Rattle.rule_file.specs.Gaps.{ends_line}
use Rattle.rule_file.proofs.GapsLaws.{ends_past, ends_here, ends_behind, gap_of}
use Rattle.rule_file.proofs.token.formula_len.Goals as goal

pub returns-then-next-rest-clause-ends : goal.returns-then-next-rest-clause-ends
returns-then-next-rest-clause-ends c =
    c.loop-at.invariant.ends (ends_behind c.args.rest.now c.loop-at.at c.gap.result (gap_of c.args.rest.now c.loop-at.at c.gap.result c.gap.ensures.gap) (ends_past c.args.rest.now (c.loop-at.at + c.gap.result) (omega arith)))

pub returns-then-depth-eq0-clause-ends : goal.returns-then-depth-eq0-clause-ends
returns-then-depth-eq0-clause-ends c =
    c.loop-at.invariant.ends (ends_behind c.args.rest.now c.loop-at.at c.gap.result (gap_of c.args.rest.now c.loop-at.at c.gap.result c.gap.ensures.gap) (ends_here c.args.rest.now (c.loop-at.at + c.gap.result) (omega arith) c.if-b-eq10.true))

pub loop-at-preserved-then-b-eq10 : goal.loop-at-preserved-then-b-eq10
loop-at-preserved-then-b-eq10 c =
    let ends : IsTrue (ends_line (drop c.loop-at.end c.args.rest.now)) =
    c.loop-at.invariant.ends (ends_behind c.args.rest.now c.loop-at.at c.gap.result (gap_of c.args.rest.now c.loop-at.at c.gap.result c.gap.ensures.gap) (ends_here c.args.rest.now (c.loop-at.at + c.gap.result) (omega arith) c.if-b-eq10.true)) in
    record { some = omega arith; behind = omega arith; within = omega arith; ends = λ e. ends }
