use Rattle.std.proofs.Common.{◌≡◌, ◌^◌, sym, ap, ◌∙◌, subst, arith}
use Rattle.claims.specs.Sizes.{Fits}
use Rattle.narrowing.specs.Mentioned.{widest}
use Rattle.lengths.specs.Answer.{Answered}
use Rattle.construct.specs.declared.wanted.Wanted.TheVariants.{Any}
use Rattle.construct.proofs.LentLaws.{whole_room}
use Rattle.construct.proofs.StandsLaws.{fits_none, stands_fits}
use Rattle.lengths.proofs.JudgeLaws.{claim_few, claim_front, claim_part, enough, judged_answer, judged_few, judged_many, judged_no_claim, lent_whole, work_enough}
use Rattle.lengths.proofs.PartLaws.{part_ordered, part_table}
use Rattle.lengths.proofs.judge.judge.Goals as goal

pub returns-then-too_few : goal.returns-then-too_few
returns-then-too_few c =
    let (v, x, i) = c.too_few.ensures in
    judged_few c.args.claim.now c.args.most c.args.out.now _ v x (i.0 c.if-too_few.true)

pub returns-in_default : goal.returns-in_default
returns-in_default c =
    let (v, x, i) = c.too_few.ensures in
    judged_no_claim c.args.claim.now c.args.most c.args.out.now _ v x (enough _ c.too_few.result i c.if-too_few.false)
    c.in_default.ensures.said

pub returns-then-most-eq0 : goal.returns-then-most-eq0
returns-then-most-eq0 c =
    let (v, x, i) = c.too_few.ensures in
    let (d, y, e) = c.in-Some.ensures.said in
    let k = c.in-Some.field-0.sets in
    judged_many c.args.claim.now c.args.most c.args.out.now _ v x (enough _ c.too_few.result i c.if-too_few.false)
    k d y (λ f. fits_none k d (subst (λ n. Fits k n d) c.if-most-eq0.true f))

pub cut_slot-rows-requires-clause-room : goal.cut_slot-rows-requires-clause-room
cut_slot-rows-requires-clause-room c =
    let (v, x, i) = c.too_few.ensures in
    let (d, y, e) = c.in-Some.ensures.said in
    let k = c.in-Some.field-0.sets in
    let h = c.new-shape.result in
    let sets : h.sets ≡ widest k d = cc in
    let w = whole_room c.args.most h.width _ (work_enough c.args.claim.now k d v c.args.most _ h.width y x (h.wide ∙ ap (λ k. 2 ^ k) sets) (enough _ c.too_few.result i c.if-too_few.false)) in
    omega (arith, w)

pub cut-inner-requires-clause-words : goal.cut-inner-requires-clause-words
cut-inner-requires-clause-words c =
    let (v, x, i) = c.too_few.ensures in
    let (d, y, e) = c.in-Some.ensures.said in
    let k = c.in-Some.field-0.sets in
    let h = c.new-shape.result in
    let sets : h.sets ≡ widest k d = cc in
    let w = whole_room c.args.most h.width _ (work_enough c.args.claim.now k d v c.args.most _ h.width y x (h.wide ∙ ap (λ k. 2 ^ k) sets) (enough _ c.too_few.result i c.if-too_few.false)) in
    rw c.new-shape.ensures.most (omega (arith, w, c.cut_slot-rows.ensures.rest))

pub work_out-requires : goal.work_out-requires
work_out-requires c =
    let (d, y, e) = c.in-Some.ensures.said in
    let k = c.in-Some.field-0.sets in
    let (l, h, b) = claim_few c.args.claim.now k d y in
    let sets : c.cut-inner.result.sets ≡ k = cc in
    let wide : c.cut-inner.result.shape.sets ≡ widest k d = ap (λ z. z.sets) c.cut-inner.ensures.shape ∙ (cc) in
    record {
      part = claim_part c.args.claim.now k d y c.cut-inner.result.sets c.cut-inner.result.shape.sets sets wide;
      shape = sym c.cut-inner.ensures.shape;
      lent = lent_whole _ _ _ b (rw c.cut-inner.ensures.shape c.cut-inner.ensures.free);
    }

pub returns-in_default-work_out : goal.returns-in_default-work_out
returns-in_default-work_out c =
    let (v, x, i) = c.too_few.ensures in
    let (d, y, e) = c.in-Some.ensures.said in
    let k = c.in-Some.field-0.sets in
    let s = c.args.claim.now in
    let same : c.cut-inner.result.sets ≡ k = cc in
    let front = claim_front s k d y c.cut-inner.result.sets same in
    let over = c.in_default-work_out.ensures.worked_out d front in
    judged_many s c.args.most c.args.out.now _ v x (enough _ c.too_few.result i c.if-too_few.false)
    k d y (λ g. over (rw (same, c.new-shape.ensures.most) g))

pub table-requires : goal.table-requires
table-requires c =
    let (d, y, e) = c.in-Some.ensures.said in
    let k = c.in-Some.field-0.sets in
    let s = c.args.claim.now in
    let same : c.cut-inner.result.sets ≡ k = cc in
    let front = claim_front s k d y c.cut-inner.result.sets same in
    (Any, _, d, (c.in-Some-work_out.ensures.worked_out d front).1)

pub answer-requires : goal.answer-requires
answer-requires c =
    let (d, y, e) = c.in-Some.ensures.said in
    let k = c.in-Some.field-0.sets in
    let s = c.args.claim.now in
    let same : c.cut-inner.result.sets ≡ k = cc in
    let front = claim_front s k d y c.cut-inner.result.sets same in
    let (shape, t) = c.in-Some-work_out.ensures.worked_out d front in
    let u = c.work_out.new.sheet in
    let w = c.work_out.new.work in
    let p = c.in-Some-work_out.part in
    let r = c.table.result in
    let x = c.table.ensures in
    let most : u.shape.most ≡ w.shape.most = ap (λ z. z.most) (shape ∙ sym (c.in-Some-work_out.ensures.shape ∙ c.cut-inner.ensures.shape)) in
    record {
      few = omega (arith, x.classes, t.few, u.shape.few);
      columns = x.sets;
      says = (d, part_table Any _ u d p t r x);
      ordered = part_ordered Any _ u d p t r x;
      scratch = omega (arith, x.classes, t.few, most, w.scratch_fits);
    }

pub returns : goal.returns
returns c =
    let (v, x, i) = c.too_few.ensures in
    let (d, y, e) = c.in-Some.ensures.said in
    let k = c.in-Some.field-0.sets in
    let s = c.args.claim.now in
    let same : c.cut-inner.result.sets ≡ k = cc in
    let front = claim_front s k d y c.cut-inner.result.sets same in
    let (shape, t) = c.in-Some-work_out.ensures.worked_out d front in
    let u = c.work_out.new.sheet in
    let p = c.in-Some-work_out.part in
    let fits : Fits k c.args.most d = rw (← same, ← c.new-shape.ensures.most) (subst (λ z. Fits c.cut-inner.result.sets z.most d) shape (stands_fits Any _ u d p t)) in
    judged_answer s c.args.most c.args.out.now _ v x (enough _ c.too_few.result i c.if-too_few.false)
    k d y c.answer.new.out fits c.answer.result
    (subst (λ k. Answered k d c.args.out.now c.answer.new.out c.answer.result) (t.of ∙ same)
    (c.answer.ensures d (part_table Any _ u d p t c.table.result c.table.ensures)))
