use Rattle.std.proofs.Common.{ℕ, ◌+◌, length, slice_index, sym, subst, arith}
use Rattle.tables.specs.Cells.{entry}
use Rattle.minimal.proofs.WidenLaws.{Written, written_start, written_next, written_row}
use Rattle.minimal.proofs.widen.rows_by.Goals as goal

pub loop-q-init : goal.loop-q-init
loop-q-init c =
    let f = λ (q a : ℕ). entry c.args.t.rows.now c.args.t.width q (slice_index c.args.columns.now a) in
    subst (λ z. Written z (length c.args.columns.now) f 0 0) (sym c.new-rows.ensures.items) (written_start (length c.args.columns.now) f)

pub loop-column-init : goal.loop-column-init
loop-column-init c = (c.loop-q-test.true, c.loop-q.invariant)

pub loop-column-preserved : goal.loop-column-preserved
loop-column-preserved c =
    let f = λ (q a : ℕ). entry c.args.t.rows.now c.args.t.width q (slice_index c.args.columns.now a) in
    let (h, w) = c.loop-column.invariant in
    (h, subst (λ z. Written z (length c.args.columns.now) f c.loop-q.q (c.loop-column.column-index + 1)) (sym c.in_ok-push.ensures.items) (written_next c.loop-column.rows.items c.next-to.result.0 (length c.args.columns.now) f c.loop-q.q c.loop-column.column-index w c.next-to.ensures.value))

pub loop-q-preserved : goal.loop-q-preserved
loop-q-preserved c =
    let f = λ (q a : ℕ). entry c.args.t.rows.now c.args.t.width q (slice_index c.args.columns.now a) in
    written_row c.loop-column.rows.items (length c.args.columns.now) f c.loop-q.q c.loop-column.column-index c.loop-column.invariant.1 (omega arith)
