use Rattle.std.proofs.Common.{◌^◌, ◌<◌, sym, subst}
use Rattle.narrowing.proofs.ColumnsLaws.{extract_below}
use Rattle.selection.specs.Selections.{chosen, count}
use Rattle.selection.proofs.selection.Selection.narrow.Goals as goal

pub returns-clause-below : goal.returns-clause-below
returns-clause-below c =
    let s = c.args.self in
    subst (λ r. r < 2 ^ count s) (sym c.narrow_below.ensures.value) (extract_below s.of (chosen s) c.args.column)
