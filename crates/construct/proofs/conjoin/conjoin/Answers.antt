use Rattle.std.proofs.Common.{◌+◌, ◌≤◌, refl, sym, ◌∙◌, arith}
use Rattle.std.proofs.lemmas.Nat.{mul-le}
use Rattle.construct.specs.declared.wanted.Wanted.TheVariants.{Exact}
use Rattle.construct.proofs.ConjoinLaws.{both_columns, both_few, both_many, both_result}
use Rattle.construct.proofs.RoomLaws.{slot_less, width_less}
use Rattle.construct.proofs.StandsLaws.{stands_start}
use Rattle.construct.proofs.conjoin.conjoin.Goals as goal

pub cut_slot-rows-requires-clause-room : goal.cut_slot-rows-requires-clause-room
cut_slot-rows-requires-clause-room c =
    let few = (both_few c.args.sheet.now c.args.left c.args.right c.args.other c.with-both.result c.requires.shape c.with-both.ensures.of c.with-both.ensures.chosen c.requires.first.1 c.requires.second.1 (c.requires.both c.requires.first.0 c.requires.second.0 c.requires.first.1 c.requires.second.1)) in
    let r = slot_less c.new-shape.result c.args.work.now.shape c.args.work.now.shape.most (omega (arith, c.new-shape.ensures.sets, c.count.ensures.value)) refl in
    omega (arith, c.args.work.now.spare_fits)

pub cut_slot-rows-requires-2-clause-room : goal.cut_slot-rows-requires-2-clause-room
cut_slot-rows-requires-2-clause-room c =
    let few = (both_few c.args.sheet.now c.args.left c.args.right c.args.other c.with-both.result c.requires.shape c.with-both.ensures.of c.with-both.ensures.chosen c.requires.first.1 c.requires.second.1 (c.requires.both c.requires.first.0 c.requires.second.0 c.requires.first.1 c.requires.second.1)) in
    let r = slot_less c.new-shape.result c.args.work.now.shape c.args.work.now.shape.most (omega (arith, c.new-shape.ensures.sets, c.count.ensures.value)) refl in
    omega (arith, c.args.work.now.spare_fits, c.cut_slot-rows.ensures.rest)

pub cut_slot-rows-requires-3-clause-room : goal.cut_slot-rows-requires-3-clause-room
cut_slot-rows-requires-3-clause-room c =
    let few = (both_few c.args.sheet.now c.args.left c.args.right c.args.other c.with-both.result c.requires.shape c.with-both.ensures.of c.with-both.ensures.chosen c.requires.first.1 c.requires.second.1 (c.requires.both c.requires.first.0 c.requires.second.0 c.requires.first.1 c.requires.second.1)) in
    let r = slot_less c.new-shape.result c.args.work.now.shape c.args.work.now.shape.most (omega (arith, c.new-shape.ensures.sets, c.count.ensures.value)) refl in
    omega (arith, c.requires.free)

pub split_at_mut-map-requires : goal.split_at_mut-map-requires
split_at_mut-map-requires c =
    let few = (both_few c.args.sheet.now c.args.left c.args.right c.args.other c.with-both.result c.requires.shape c.with-both.ensures.of c.with-both.ensures.chosen c.requires.first.1 c.requires.second.1 (c.requires.both c.requires.first.0 c.requires.second.0 c.requires.first.1 c.requires.second.1)) in
    let w = width_less c.new-shape.result c.args.work.now.shape (omega (arith, c.new-shape.ensures.sets, c.count.ensures.value)) in
    omega (arith, c.args.work.now.scratch_fits)

pub split_at_mut-lefts-requires : goal.split_at_mut-lefts-requires
split_at_mut-lefts-requires c =
    let few = (both_few c.args.sheet.now c.args.left c.args.right c.args.other c.with-both.result c.requires.shape c.with-both.ensures.of c.with-both.ensures.chosen c.requires.first.1 c.requires.second.1 (c.requires.both c.requires.first.0 c.requires.second.0 c.requires.first.1 c.requires.second.1)) in
    let w = width_less c.new-shape.result c.args.work.now.shape (omega (arith, c.new-shape.ensures.sets, c.count.ensures.value)) in
    omega (arith, c.args.work.now.scratch_fits)

pub split_at_mut-rights-requires : goal.split_at_mut-rights-requires
split_at_mut-rights-requires c =
    let few = (both_few c.args.sheet.now c.args.left c.args.right c.args.other c.with-both.result c.requires.shape c.with-both.ensures.of c.with-both.ensures.chosen c.requires.first.1 c.requires.second.1 (c.requires.both c.requires.first.0 c.requires.second.0 c.requires.first.1 c.requires.second.1)) in
    let w = width_less c.new-shape.result c.args.work.now.shape (omega (arith, c.new-shape.ensures.sets, c.count.ensures.value)) in
    omega (arith, c.args.work.now.scratch_fits)

pub invariant_of-found-clause-same_sets : goal.invariant_of-found-clause-same_sets
invariant_of-found-clause-same_sets c = c.widen.ensures.sets ∙ sym c.widen-2.ensures.sets

pub invariant_of-found-clause-start_left : goal.invariant_of-found-clause-start_left
invariant_of-found-clause-start_left c = rw (c.widen.ensures.classes, c.table.ensures.classes) (stands_start Exact c.args.work.now.sets c.args.sheet.now c.requires.first.0 c.args.left c.requires.first.1)

pub invariant_of-found-clause-start_right : goal.invariant_of-found-clause-start_right
invariant_of-found-clause-start_right c = rw c.widen-2.ensures.classes c.requires.second.1.worked.table.connected.start

pub invariant_of-found-clause-index_fits : goal.invariant_of-found-clause-index_fits
invariant_of-found-clause-index_fits c =
    let h = c.args.work.now.shape in
    let e : c.args.sheet.now.shape.most ≤ h.most = rw c.requires.shape (omega arith) in
    let p = mul-le c.args.left.classes c.args.other.table.classes (h.most + 1) h.most (omega (arith, c.requires.first.1.few)) c.requires.few in
    rw (c.widen.ensures.classes, c.table.ensures.classes, c.widen-2.ensures.classes) (omega (arith, c.args.work.now.pairs_fit))

pub hand_on-classes-requires-clause-sets : goal.hand_on-classes-requires-clause-sets
hand_on-classes-requires-clause-sets c =
    let (p, s) = c.requires.first in
    let (q, t) = c.requires.second in
    let few = both_few c.args.sheet.now c.args.left c.args.right c.args.other c.with-both.result c.requires.shape c.with-both.ensures.of c.with-both.ensures.chosen s t (c.requires.both p q s t) in
    rw (both_columns c.args.sheet.now c.args.left c.args.right c.args.other c.with-both.result c.requires.shape c.with-both.ensures.of c.with-both.ensures.chosen s t c.table.result c.widen.result c.widen-2.result c.table.ensures c.widen.ensures c.widen-2.ensures _ c.product.new.sheet c.table-2.result (c.new-shape.ensures.sets ∙ c.count.ensures.value) c.new-shape.ensures.most c.in_ok-count.ensures c.table-2.ensures, c.requires.shape) few

pub hand_on-classes-requires-clause-pairs : goal.hand_on-classes-requires-clause-pairs
hand_on-classes-requires-clause-pairs c =
    let h = c.args.work.now.shape in
    let m = c.table-2.result.table.classes in
    let l : m ≤ h.most = omega (arith, c.in_ok-count.ensures.few, c.table-2.ensures.classes, c.new-shape.ensures.most) in
    let p = mul-le m m (h.most + 1) h.most (omega arith) l in
    omega (arith, c.args.work.now.pairs_fit)

pub returns-in_err-count-clause-table : goal.returns-in_err-count-clause-table
returns-in_err-count-clause-table c = rw c.from_residual.ensures (λ p q s t. both_many c.args.sheet.now c.args.left c.args.right c.args.other c.with-both.result c.requires.shape c.with-both.ensures.of c.with-both.ensures.chosen s t c.table.result c.widen.result c.widen-2.result c.table.ensures c.widen.ensures c.widen-2.ensures c.new-shape.ensures.most c.in_err-count.ensures)

pub returns-clause-table : goal.returns-clause-table
returns-clause-table c p q s t =
    let few = (both_few c.args.sheet.now c.args.left c.args.right c.args.other c.with-both.result c.requires.shape c.with-both.ensures.of c.with-both.ensures.chosen c.requires.first.1 c.requires.second.1 (c.requires.both c.requires.first.0 c.requires.second.0 c.requires.first.1 c.requires.second.1)) in
    both_result c.args.sheet.now c.args.left c.args.right c.args.other c.with-both.result c.requires.shape c.with-both.ensures.of c.with-both.ensures.chosen s t c.table.result c.widen.result c.widen-2.result c.table.ensures c.widen.ensures c.widen-2.ensures _ c.product.new.sheet c.table-2.result (c.new-shape.ensures.sets ∙ c.count.ensures.value) c.new-shape.ensures.most c.in_ok-count.ensures c.table-2.ensures c.hand_on-classes.new.sheet c.hand_on-classes.ensures few
