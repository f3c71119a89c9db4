use Rattle.std.proofs.Common.{◌≡◌, ◌+◌, ◌^◌, ◌<◌, ◌≤◌, length, sym, ap, ◌∙◌, subst, arith}
use Rattle.claims.specs.Sizes.{Fits}
use Rattle.claims.proofs.ClaimLaws.{claim_bounds}
use Rattle.narrowing.specs.Mentioned.{widest}
use Rattle.narrowing.specs.Wide.{wide}
use Rattle.selection.specs.Selections.{chosen}
use Rattle.tables.specs.View.{accepting, moves}
use Rattle.workspace.specs.Floor.{NoRoom, floor_words}
use Rattle.lengths.proofs.JudgeLaws.{claim_few, claim_front, claim_part, lent_whole, work_enough}
use Rattle.lengths.proofs.PartLaws.{part_meets}
use Rattle.construct.specs.declared.wanted.Wanted.TheVariants.{Exact}
use Rattle.construct.proofs.LentLaws.{whole_room}
use Rattle.construct.proofs.StandsLaws.{fits_none, stands_fits}
use Rattle.minimal.specs.Minimal.{Minimal}
use Rattle.minimal.proofs.MadeLaws.{made, too_many}
use Rattle.minimal.proofs.OrderLaws.{minimal}
use Rattle.minimal.proofs.automaton_of.automaton_of.Goals as goal

pub largest-n-requires : goal.largest-n-requires
largest-n-requires c = let (d, y, e) = c.in-Some.ensures.said in (claim_bounds c.args.claim.now c.in-Some.field-0.sets d y).size

pub returns-then-n-eq0 : goal.returns-then-n-eq0
returns-then-n-eq0 c =
    let (d, y, e) = c.in-Some.ensures.said in
    let largest = c.largest-n.ensures.largest in
    record {
      claim = (c.in-Some.field-0.sets, d, y);
      many = λ k e z f. fits_none k e f;
      within = omega arith;
      memory = subst (λ n. n < c.args.most → NoRoom c.args.claim.now (n + 1)) c.if-n-eq0.true largest;
    }

pub cut_slot-rows-requires-clause-room : goal.cut_slot-rows-requires-clause-room
cut_slot-rows-requires-clause-room c =
    let (v, x, f) = c.floor.ensures.value in
    let (d, y, e) = c.in-Some.ensures.said in
    let k = c.in-Some.field-0.sets in
    let h = c.new-shape.result in
    let n = c.largest-n.result in
    let words = c.deref_mut.result.now in
    let sets : h.sets ≡ widest k d = cc in
    let memory : floor_words v c.args.claim.now n ≤ length words = omega (arith, c.deref_mut.ensures.len, c.in_ok-words.ensures.len, f, c.largest-n.ensures.fits v x) in
    let w = whole_room n h.width (length words) (work_enough c.args.claim.now k d v n (length words) h.width y x (h.wide ∙ ap (λ k. 2 ^ k) sets) (λ z. (let g : ⊥ = omega arith in g))) in
    omega (arith, w)

pub cut-work-requires-clause-words : goal.cut-work-requires-clause-words
cut-work-requires-clause-words c =
    let (v, x, f) = c.floor.ensures.value in
    let (d, y, e) = c.in-Some.ensures.said in
    let k = c.in-Some.field-0.sets in
    let h = c.new-shape.result in
    let n = c.largest-n.result in
    let words = c.deref_mut.result.now in
    let sets : h.sets ≡ widest k d = cc in
    let memory : floor_words v c.args.claim.now n ≤ length words = omega (arith, c.deref_mut.ensures.len, c.in_ok-words.ensures.len, f, c.largest-n.ensures.fits v x) in
    let w = whole_room n h.width (length words) (work_enough c.args.claim.now k d v n (length words) h.width y x (h.wide ∙ ap (λ k. 2 ^ k) sets) (λ z. (let g : ⊥ = omega arith in g))) in
    rw c.new-shape.ensures.most (omega (arith, w, c.cut_slot-rows.ensures.rest))

pub work_out-requires : goal.work_out-requires
work_out-requires c =
    let (d, y, e) = c.in-Some.ensures.said in
    let k = c.in-Some.field-0.sets in
    let (l, h, b) = claim_few c.args.claim.now k d y in
    let sets : c.cut-work.result.sets ≡ k = cc in
    let wide : c.cut-work.result.shape.sets ≡ widest k d = ap (λ z. z.sets) c.cut-work.ensures.shape ∙ (cc) in
    record {
      part = claim_part c.args.claim.now k d y c.cut-work.result.sets c.cut-work.result.shape.sets sets wide;
      shape = sym c.cut-work.ensures.shape;
      lent = lent_whole _ _ _ b (rw c.cut-work.ensures.shape c.cut-work.ensures.free);
    }

pub returns-in_default-work_out : goal.returns-in_default-work_out
returns-in_default-work_out c =
    let (d, y, e) = c.in-Some.ensures.said in
    let k = c.in-Some.field-0.sets in
    let s = c.args.claim.now in
    let same : c.cut-work.result.sets ≡ k = cc in
    let front = claim_front s k d y c.cut-work.result.sets same in
    let over = c.in_default-work_out.ensures.worked_out d front in
    too_many s c.args.most c.largest-n.result k d y (λ g. over (rw (same, c.new-shape.ensures.most) g)) c.largest-n.ensures.within c.largest-n.ensures.largest

pub table-requires : goal.table-requires
table-requires c =
    let (d, y, e) = c.in-Some.ensures.said in
    let k = c.in-Some.field-0.sets in
    let s = c.args.claim.now in
    let same : c.cut-work.result.sets ≡ k = cc in
    let front = claim_front s k d y c.cut-work.result.sets same in
    (Exact, _, d, (c.in-Some-work_out.ensures.worked_out d front).1)

pub of_table-requires : goal.of_table-requires
of_table-requires c =
    let (d, y, e) = c.in-Some.ensures.said in
    let k = c.in-Some.field-0.sets in
    let s = c.args.claim.now in
    let same : c.cut-work.result.sets ≡ k = cc in
    let front = claim_front s k d y c.cut-work.result.sets same in
    let (shape, t) = c.in-Some-work_out.ensures.worked_out d front in
    let u = c.work_out.new.sheet in
    record { few = omega (arith, c.table.ensures.classes, t.few, u.shape.few); columns = c.table.ensures.sets }

pub returns : goal.returns
returns c =
    let (d, y, e) = c.in-Some.ensures.said in
    let k = c.in-Some.field-0.sets in
    let s = c.args.claim.now in
    let n = c.largest-n.result in
    let same : c.cut-work.result.sets ≡ k = cc in
    let front = claim_front s k d y c.cut-work.result.sets same in
    let (shape, t) = c.in-Some-work_out.ensures.worked_out d front in
    let u = c.work_out.new.sheet in
    let p = c.in-Some-work_out.part in
    let r = c.table.result in
    let fits : Fits k n d = rw (← same, ← c.new-shape.ensures.most) (subst (λ z. Fits c.cut-work.result.sets z.most d) shape (stands_fits Exact _ u d p t)) in
    let a = c.in_ok-automaton.ensures in
    let least = minimal p.sets.of u.shape.most d r.table.classes (wide p.sets.of (chosen p.sets) (moves r.table)) (accepting r.table) (part_meets Exact _ u d p t r c.table.ensures) c.in_ok-automaton.automaton a.sets a.states a.leads a.accepts in
    made s c.args.most n k d y c.in_ok-automaton.automaton (subst (λ j. Minimal j d c.in_ok-automaton.automaton) (t.of ∙ same) least) fits c.largest-n.ensures.within
