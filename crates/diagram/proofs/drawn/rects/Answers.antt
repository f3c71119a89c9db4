use Rattle.std.proofs.Common.{◌≡◌, ◌++◌, [], drop, ◌∙◌, sym, ap, subst, append-nil, arith}
use Rattle.std.proofs.lemmas.List.{at_drop_all}
use Rattle.diagram.specs.Drawn.{IsDrawn, of_rows}
use Rattle.diagram.proofs.DrawnLaws.{of_rows-drawn}
use Rattle.diagram.proofs.drawn.rects.Goals as goal

-- at the last step nothing is to come
pub returns : goal.returns
returns c =
    let l = c.args.layout.now in
    let rows = c.args.rows.now in
    let out = c.loop-step.out.items in
    let rest : of_rows l c.args.part c.loop-step.step (drop c.loop-step.step rows) ≡ [] = at_drop_all (of_rows l c.args.part c.loop-step.step) rows c.loop-step.step (omega arith) in
    let e : of_rows l c.args.part 0 rows ≡ out = sym c.loop-step.invariant ∙ (ap (λ r. out ++ r) rest ∙ append-nil out) in
    subst (IsDrawn l c.args.part rows) e (of_rows-drawn l c.args.part rows)
