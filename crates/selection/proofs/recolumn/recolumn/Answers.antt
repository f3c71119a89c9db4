use Rattle.std.proofs.Common.{◌^◌, ap, ◌∙◌, arith}
use Rattle.selection.proofs.RecolumnLaws.{map_below}
use Rattle.selection.proofs.recolumn.recolumn.Goals as goal

pub fill-requires-clause-room : goal.fill-requires-clause-room
fill-requires-clause-room c =
    let wide = c.args.sheet.now.shape.wide ∙ ap (λ n. 2 ^ n) c.requires.to in
    omega (arith, wide)

pub recolumn_row-requires-clause-below : goal.recolumn_row-requires-clause-below
recolumn_row-requires-clause-below c j h =
    let wide = c.args.sheet.now.shape.wide ∙ ap (λ n. 2 ^ n) c.requires.to in
    map_below c.args.t c.args.from c.args.to c.fill.new.map _ c.requires.from c.fill.ensures j (omega (arith, wide, ap (λ s. s.width) c.loop-q.invariant.shape))
