use Rattle.std.proofs.Common.{refl, ap, ◌∙◌, sym, subst, arith}
use Rattle.selection.specs.Selections.{chosen}
use Rattle.tables.specs.Sheets.{Shows}
use Rattle.construct.specs.declared.wanted.Wanted.TheVariants.{Exact}
use Rattle.construct.proofs.QuantifyLaws.{absent_result, columns, fewer, inside, out_columns, out_many, out_result, part_collapsed, part_connected, part_few, worked, o_columns}
use Rattle.construct.proofs.RoomLaws.{slot_less, width_less}
use Rattle.construct.proofs.StandsLaws.{stands_start}
use Rattle.construct.proofs.WidenLaws.{written_below}
use Rattle.construct.proofs.quantify.quantify.Goals as goal

pub returns-then-not-has-clause-table : goal.returns-then-not-has-clause-table
returns-then-not-has-clause-table c p t = absent_result c.args.sheet.now c.args.part c.args.x.0 c.requires.set (sym c.has.ensures ∙ c.if-not-has.true) t c.args.wanted

pub cut_slot-rows-requires-clause-room : goal.cut_slot-rows-requires-clause-room
cut_slot-rows-requires-clause-room c =
    let few = part_few c.args.sheet.now c.args.part c.without-sets.result c.table-t.result c.args.x.0 c.requires.shape c.requires.set (sym c.has.ensures ∙ c.if-not-has.false) c.without-sets.ensures.of c.without-sets.ensures.gone c.without-sets.ensures.others c.requires.part.1 c.table-t.ensures in
    let r = slot_less c.new-wide.result c.args.work.now.shape c.args.work.now.shape.most (omega (arith, c.new-wide.ensures.sets)) refl in
    omega (arith, c.requires.free)

pub cut_slot-rows-requires-2-clause-room : goal.cut_slot-rows-requires-2-clause-room
cut_slot-rows-requires-2-clause-room c =
    let less = fewer c.args.sheet.now c.args.part c.without-sets.result c.table-t.result c.args.x.0 c.requires.shape c.requires.set (sym c.has.ensures ∙ c.if-not-has.false) c.without-sets.ensures.of c.without-sets.ensures.gone c.without-sets.ensures.others c.requires.part.1 c.table-t.ensures in
    let few = part_few c.args.sheet.now c.args.part c.without-sets.result c.table-t.result c.args.x.0 c.requires.shape c.requires.set (sym c.has.ensures ∙ c.if-not-has.false) c.without-sets.ensures.of c.without-sets.ensures.gone c.without-sets.ensures.others c.requires.part.1 c.table-t.ensures in
    let r = slot_less c.new-narrow.result c.args.work.now.shape c.args.work.now.shape.most (omega (arith, c.new-narrow.ensures.sets, c.count.ensures.value, c.table-t.ensures.sets)) refl in
    omega (arith, c.args.work.now.spare_fits)

pub split_at_mut-map-requires : goal.split_at_mut-map-requires
split_at_mut-map-requires c =
    let less = fewer c.args.sheet.now c.args.part c.without-sets.result c.table-t.result c.args.x.0 c.requires.shape c.requires.set (sym c.has.ensures ∙ c.if-not-has.false) c.without-sets.ensures.of c.without-sets.ensures.gone c.without-sets.ensures.others c.requires.part.1 c.table-t.ensures in
    let few = part_few c.args.sheet.now c.args.part c.without-sets.result c.table-t.result c.args.x.0 c.requires.shape c.requires.set (sym c.has.ensures ∙ c.if-not-has.false) c.without-sets.ensures.of c.without-sets.ensures.gone c.without-sets.ensures.others c.requires.part.1 c.table-t.ensures in
    let w = width_less c.new-narrow.result c.args.work.now.shape (omega (arith, c.new-narrow.ensures.sets, c.count.ensures.value, c.table-t.ensures.sets)) in
    omega (arith, c.args.work.now.scratch_fits)

pub split_at_mut-completed-requires : goal.split_at_mut-completed-requires
split_at_mut-completed-requires c =
    let less = fewer c.args.sheet.now c.args.part c.without-sets.result c.table-t.result c.args.x.0 c.requires.shape c.requires.set (sym c.has.ensures ∙ c.if-not-has.false) c.without-sets.ensures.of c.without-sets.ensures.gone c.without-sets.ensures.others c.requires.part.1 c.table-t.ensures in
    let few = part_few c.args.sheet.now c.args.part c.without-sets.result c.table-t.result c.args.x.0 c.requires.shape c.requires.set (sym c.has.ensures ∙ c.if-not-has.false) c.without-sets.ensures.of c.without-sets.ensures.gone c.without-sets.ensures.others c.requires.part.1 c.table-t.ensures in
    let w = width_less c.new-narrow.result c.args.work.now.shape (omega (arith, c.new-narrow.ensures.sets, c.count.ensures.value, c.table-t.ensures.sets)) in
    omega (arith, c.args.work.now.scratch_fits)

pub dead-dead-requires-clause-connected : goal.dead-dead-requires-clause-connected
dead-dead-requires-clause-connected c = part_connected c.args.work.now.sets c.args.work.now.shape.most (chosen c.args.part.sets) c.requires.part.0 c.table-t.result (columns c.args.sheet.now c.args.part c.without-sets.result c.table-t.result c.args.x.0 c.requires.shape c.requires.set (sym c.has.ensures ∙ c.if-not-has.false) c.without-sets.ensures.of c.without-sets.ensures.gone c.without-sets.ensures.others c.requires.part.1 c.table-t.ensures) (worked c.args.sheet.now c.args.part c.without-sets.result c.table-t.result c.args.x.0 c.requires.shape c.requires.set (sym c.has.ensures ∙ c.if-not-has.false) c.without-sets.ensures.of c.without-sets.ensures.gone c.without-sets.ensures.others c.requires.part.1 c.table-t.ensures)

pub dead-dead-requires-clause-collapsed : goal.dead-dead-requires-clause-collapsed
dead-dead-requires-clause-collapsed c = part_collapsed c.args.work.now.sets c.args.work.now.shape.most (chosen c.args.part.sets) c.requires.part.0 c.table-t.result (columns c.args.sheet.now c.args.part c.without-sets.result c.table-t.result c.args.x.0 c.requires.shape c.requires.set (sym c.has.ensures ∙ c.if-not-has.false) c.without-sets.ensures.of c.without-sets.ensures.gone c.without-sets.ensures.others c.requires.part.1 c.table-t.ensures) (worked c.args.sheet.now c.args.part c.without-sets.result c.table-t.result c.args.x.0 c.requires.shape c.requires.set (sym c.has.ensures ∙ c.if-not-has.false) c.without-sets.ensures.of c.without-sets.ensures.gone c.without-sets.ensures.others c.requires.part.1 c.table-t.ensures)

pub cut-requires-clause-scratch : goal.cut-requires-clause-scratch
cut-requires-clause-scratch c =
    let less = fewer c.args.sheet.now c.args.part c.without-sets.result c.table-t.result c.args.x.0 c.requires.shape c.requires.set (sym c.has.ensures ∙ c.if-not-has.false) c.without-sets.ensures.of c.without-sets.ensures.gone c.without-sets.ensures.others c.requires.part.1 c.table-t.ensures in
    let few = part_few c.args.sheet.now c.args.part c.without-sets.result c.table-t.result c.args.x.0 c.requires.shape c.requires.set (sym c.has.ensures ∙ c.if-not-has.false) c.without-sets.ensures.of c.without-sets.ensures.gone c.without-sets.ensures.others c.requires.part.1 c.table-t.ensures in
    let w = width_less c.new-narrow.result c.args.work.now.shape (omega (arith, c.new-narrow.ensures.sets, c.count.ensures.value, c.table-t.ensures.sets)) in
    omega (arith, c.args.work.now.scratch_fits)

pub beyond-requires-clause-set : goal.beyond-requires-clause-set
beyond-requires-clause-set c = inside c.args.sheet.now c.args.part c.without-sets.result c.table-t.result c.args.x.0 c.requires.shape c.requires.set (sym c.has.ensures ∙ c.if-not-has.false) c.without-sets.ensures.of c.without-sets.ensures.gone c.without-sets.ensures.others c.requires.part.1 c.table-t.ensures c.place.ensures.value

pub split_at_mut-heads-requires : goal.split_at_mut-heads-requires
split_at_mut-heads-requires c =
    let less = fewer c.args.sheet.now c.args.part c.without-sets.result c.table-t.result c.args.x.0 c.requires.shape c.requires.set (sym c.has.ensures ∙ c.if-not-has.false) c.without-sets.ensures.of c.without-sets.ensures.gone c.without-sets.ensures.others c.requires.part.1 c.table-t.ensures in
    let few = part_few c.args.sheet.now c.args.part c.without-sets.result c.table-t.result c.args.x.0 c.requires.shape c.requires.set (sym c.has.ensures ∙ c.if-not-has.false) c.without-sets.ensures.of c.without-sets.ensures.gone c.without-sets.ensures.others c.requires.part.1 c.table-t.ensures in
    let w = width_less c.new-narrow.result c.args.work.now.shape (omega (arith, c.new-narrow.ensures.sets, c.count.ensures.value, c.table-t.ensures.sets)) in
    omega (arith, c.args.work.now.scratch_fits)

pub split_at_mut-links-requires : goal.split_at_mut-links-requires
split_at_mut-links-requires c =
    let less = fewer c.args.sheet.now c.args.part c.without-sets.result c.table-t.result c.args.x.0 c.requires.shape c.requires.set (sym c.has.ensures ∙ c.if-not-has.false) c.without-sets.ensures.of c.without-sets.ensures.gone c.without-sets.ensures.others c.requires.part.1 c.table-t.ensures in
    let few = part_few c.args.sheet.now c.args.part c.without-sets.result c.table-t.result c.args.x.0 c.requires.shape c.requires.set (sym c.has.ensures ∙ c.if-not-has.false) c.without-sets.ensures.of c.without-sets.ensures.gone c.without-sets.ensures.others c.requires.part.1 c.table-t.ensures in
    let w = width_less c.new-narrow.result c.args.work.now.shape (omega (arith, c.new-narrow.ensures.sets, c.count.ensures.value, c.table-t.ensures.sets)) in
    omega (arith, c.args.work.now.scratch_fits)

pub split_at_mut-buckets-requires : goal.split_at_mut-buckets-requires
split_at_mut-buckets-requires c =
    let less = fewer c.args.sheet.now c.args.part c.without-sets.result c.table-t.result c.args.x.0 c.requires.shape c.requires.set (sym c.has.ensures ∙ c.if-not-has.false) c.without-sets.ensures.of c.without-sets.ensures.gone c.without-sets.ensures.others c.requires.part.1 c.table-t.ensures in
    let few = part_few c.args.sheet.now c.args.part c.without-sets.result c.table-t.result c.args.x.0 c.requires.shape c.requires.set (sym c.has.ensures ∙ c.if-not-has.false) c.without-sets.ensures.of c.without-sets.ensures.gone c.without-sets.ensures.others c.requires.part.1 c.table-t.ensures in
    let w = width_less c.new-narrow.result c.args.work.now.shape (omega (arith, c.new-narrow.ensures.sets, c.count.ensures.value, c.table-t.ensures.sets)) in
    omega (arith, c.args.work.now.scratch_fits)

pub invariant_of-found-clause-bound : goal.invariant_of-found-clause-bound
invariant_of-found-clause-bound c = inside c.args.sheet.now c.args.part c.without-sets.result c.table-t.result c.args.x.0 c.requires.shape c.requires.set (sym c.has.ensures ∙ c.if-not-has.false) c.without-sets.ensures.of c.without-sets.ensures.gone c.without-sets.ensures.others c.requires.part.1 c.table-t.ensures c.place.ensures.value

pub invariant_of-found-clause-some : goal.invariant_of-found-clause-some
invariant_of-found-clause-some c = rw c.table-t.ensures.classes (stands_start Exact c.args.work.now.sets c.args.sheet.now c.requires.part.0 c.args.part c.requires.part.1)

pub table-requires-2-clause-below : goal.table-requires-2-clause-below
table-requires-2-clause-below c = rw (← c.table.ensures.classes) (written_below c.table.result c.args.part.sets c.without-sets.result _ c.recolumn.new.sheet (out_columns c.args.sheet.now c.args.part c.without-sets.result c.table-t.result c.args.x.0 c.requires.shape c.requires.set (sym c.has.ensures ∙ c.if-not-has.false) c.without-sets.ensures.of c.without-sets.ensures.gone c.without-sets.ensures.others c.requires.part.1 c.table-t.ensures c.place.ensures.value c.dead-dead.result c.beyond.new.completed c.dead-dead.ensures.live c.beyond.ensures _ c.subsets.new.sheet c.table.result c.new-wide.ensures.sets c.new-wide.ensures.most c.in_ok-count.ensures c.table.ensures) c.recolumn.ensures)

pub hand_on-classes-requires-clause-sets : goal.hand_on-classes-requires-clause-sets
hand_on-classes-requires-clause-sets c =
    let less = fewer c.args.sheet.now c.args.part c.without-sets.result c.table-t.result c.args.x.0 c.requires.shape c.requires.set (sym c.has.ensures ∙ c.if-not-has.false) c.without-sets.ensures.of c.without-sets.ensures.gone c.without-sets.ensures.others c.requires.part.1 c.table-t.ensures in
    let few = part_few c.args.sheet.now c.args.part c.without-sets.result c.table-t.result c.args.x.0 c.requires.shape c.requires.set (sym c.has.ensures ∙ c.if-not-has.false) c.without-sets.ensures.of c.without-sets.ensures.gone c.without-sets.ensures.others c.requires.part.1 c.table-t.ensures in
    let e = o_columns c.args.sheet.now c.args.part c.without-sets.result c.table-t.result c.args.x.0 c.requires.shape c.requires.set (sym c.has.ensures ∙ c.if-not-has.false) c.without-sets.ensures.of c.without-sets.ensures.gone c.without-sets.ensures.others c.requires.part.1 c.table-t.ensures c.place.ensures.value c.dead-dead.result c.beyond.new.completed c.dead-dead.ensures.live c.beyond.ensures _ c.subsets.new.sheet c.table.result c.new-wide.ensures.sets c.new-wide.ensures.most c.in_ok-count.ensures c.table.ensures _ c.recolumn.new.sheet c.table-2.result (c.new-narrow.ensures.sets ∙ c.count.ensures.value) c.recolumn.ensures (subst (λ m. Shows c.recolumn.new.sheet m c.table-2.result) (sym c.table.ensures.classes) c.table-2.ensures) in
    omega (arith, c.table-t.ensures.sets, ap (λ g. g.sets) c.requires.shape)

pub returns-in_err-count-clause-table : goal.returns-in_err-count-clause-table
returns-in_err-count-clause-table c = rw c.from_residual.ensures (λ p t. out_many c.args.sheet.now c.args.part c.without-sets.result c.table-t.result c.args.x.0 c.requires.shape c.requires.set (sym c.has.ensures ∙ c.if-not-has.false) c.without-sets.ensures.of c.without-sets.ensures.gone c.without-sets.ensures.others t c.table-t.ensures c.place.ensures.value c.dead-dead.result c.beyond.new.completed c.dead-dead.ensures.live c.beyond.ensures c.new-wide.ensures.most c.in_err-count.ensures)

pub returns-clause-table : goal.returns-clause-table
returns-clause-table c p t = out_result c.args.sheet.now c.args.part c.without-sets.result c.table-t.result c.args.x.0 c.requires.shape c.requires.set (sym c.has.ensures ∙ c.if-not-has.false) c.without-sets.ensures.of c.without-sets.ensures.gone c.without-sets.ensures.others t c.table-t.ensures c.place.ensures.value c.dead-dead.result c.beyond.new.completed c.dead-dead.ensures.live c.beyond.ensures _ c.subsets.new.sheet c.table.result c.new-wide.ensures.sets c.new-wide.ensures.most c.in_ok-count.ensures c.table.ensures
    _ c.recolumn.new.sheet c.table-2.result (c.new-narrow.ensures.sets ∙ c.count.ensures.value) c.recolumn.ensures (subst (λ m. Shows c.recolumn.new.sheet m c.table-2.result) (sym c.table.ensures.classes) c.table-2.ensures) c.args.wanted c.hand_on-classes.new.sheet c.hand_on-classes.ensures
