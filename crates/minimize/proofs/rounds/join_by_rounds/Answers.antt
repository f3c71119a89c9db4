use Rattle.std.proofs.Common.{get_or, sym, arith}
use Rattle.automata.specs.Joined.{Joined}
use Rattle.tables.specs.Cells.{accepts, entry}
use Rattle.minimize.proofs.PartsLaws.{parts_few}
use Rattle.minimize.proofs.RoundsLaws.{coarse_start, coarse_copied, refined_column, refined_skip, coarse_column, round_more, done_same, done_alone, joined_copied, joined_few}
use Rattle.minimize.proofs.rounds.join_by_rounds.Goals as goal
use Rattle.minimize.proofs.rounds.join_by_rounds.Goals.{then-loop-number-test+else-is_marked+then-count-t, else-loop-number-test+then-count-before}

pub refine-init : goal.refine-init
refine-init c = (c.copy.ensures, coarse_start c.by_acceptance-count.ensures c.args.t.sets (entry c.args.t.table.rows.now c.args.t.table.width))

pub renumber-count-requires-clause-cls_below : goal.renumber-count-requires-clause-cls_below
renumber-count-requires-clause-cls_below c q h = let cls = c.refine.invariant.1.parts in omega (arith, parts_few cls, cls.below q h)

pub renumber-count-requires-clause-anew_below : goal.renumber-count-requires-clause-anew_below
renumber-count-requires-clause-anew_below c q h = let anew = c.loop-number.invariant.0.parts in omega (arith, parts_few anew, anew.below q h)

pub loop-number-preserved : goal.loop-number-preserved
loop-number-preserved c = (
  coarse_column c.args.t.wide c.args.t.table.below c.refine.invariant.1 c.loop-number.invariant.1 c.renumber-count.ensures (omega arith),
  refined_column c.args.t.wide c.args.t.table.below c.refine.invariant.1 c.loop-number.invariant.1 c.renumber-count.ensures,
)

pub loop-number-preserved-then-is_marked : goal.loop-number-preserved-then-is_marked
loop-number-preserved-then-is_marked c = (
  c.loop-number.invariant.0,
  refined_skip c.args.t.wide c.args.t.table.below c.refine.invariant.1 c.loop-number.invariant.1 (c.mark_repeats.ensures c.loop-number.number (omega arith) (c.is_marked.ensures.marked c.if-is_marked.true)),
)

-- a round that does not end the rounds has made more parts
pub refine-smaller : goal.refine-smaller
refine-smaller c =
    let more = round_more c.args.t.wide c.args.t.table.below c.refine.invariant.1 c.loop-number.invariant.1 c.loop-number.invariant.0 in
    let few = parts_few c.loop-number.invariant.0.parts in
    omega arith

pub refine-preserved : goal.refine-preserved
refine-preserved c = (λ q h. sym (c.copy-in-refine.ensures q h), coarse_copied c.loop-number.invariant.0 (λ q. get_or c.copy-in-refine.new.to q 0) c.copy-in-refine.ensures)

-- either every class is alone, or a whole round made no part more
pub returns : goal.returns
returns c =
    let t = c.args.t.table in
    let end = c.loop-number-test in
    let done : Joined c.args.t.sets t.classes (entry t.rows.now t.width) (accepts t.accept.now) (λ q. get_or end.anew q 0) (λ i. get_or end.firsts i 0) end.count = elim end.branch [
      | then-loop-number-test+else-is_marked+then-count-t v ↦
          let d = coarse_column c.args.t.wide t.below c.refine.invariant.1 c.loop-number.invariant.1 v.renumber-count.ensures (omega arith) in
          rw (v.anew-is, v.firsts-is, v.count-is) (done_alone c.args.t.wide t.below d v.if-count-t.true (omega arith))
      | else-loop-number-test+then-count-before v ↦
          rw (v.anew-is, v.firsts-is, v.count-is) (done_same c.args.t.wide t.below c.refine.invariant.1 c.loop-number.invariant.1 c.loop-number.invariant.0 (omega arith) v.if-count-before.true (omega arith))
    ] in
    let copied = joined_copied done (omega arith) (λ q. get_or c.copy-2.new.to q 0) c.copy-2.ensures in
    record { joined = copied; few = joined_few copied }
