use Rattle.std.proofs.Common.{arith}
use Rattle.selection.proofs.RecolumnLaws.{remapped_none, remapped_more}
use Rattle.selection.proofs.recolumn.recolumn_row.Goals as goal

pub loop-j-init : goal.loop-j-init
loop-j-init c = remapped_none

pub loop-j-preserved : goal.loop-j-preserved
loop-j-preserved c =
    let p = c.put.ensures in
    remapped_more c.loop-j.invariant (omega arith) (omega arith) c.next-to.ensures.value p.rows p.accept p.shape p.same_rows p.same_accept
