use Rattle.std.proofs.Common.{◌∙◌, arith}
use Rattle.construct.proofs.StandsLaws.{stands_below, stands_rows}
use Rattle.construct.proofs.part.table.Goals as goal

pub new-shape-requires-clause-few : goal.new-shape-requires-clause-few
new-shape-requires-clause-few c = omega (arith, c.requires.3.few, c.args.sheet.now.shape.few)

pub invariant_of-result-clause-rows_fit : goal.invariant_of-result-clause-rows_fit
invariant_of-result-clause-rows_fit c =
    let h = c.new-shape.result in
    stands_rows c.requires.0 c.requires.1 c.args.sheet.now c.requires.2 c.args.part c.requires.3 h.sets h.width (c.new-shape.ensures.sets ∙ c.count.ensures.value) h.wide

pub invariant_of-result-clause-below : goal.invariant_of-result-clause-below
invariant_of-result-clause-below c =
    let h = c.new-shape.result in
    stands_below c.requires.0 c.requires.1 c.args.sheet.now c.requires.2 c.args.part c.requires.3 h.sets h.width (c.new-shape.ensures.sets ∙ c.count.ensures.value) h.wide
