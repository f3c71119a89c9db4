use Rattle.std.proofs.Common.{sym, ◌∙◌}
use Rattle.std.proofs.lemmas.Bool.Decides.{Decides-eqb}
use Rattle.std.proofs.lemmas.Slice.Eq.{slice_eq-Decides}
use Rattle.bitsets.proofs.BitrowsLaws.{row_part}
use Rattle.bitsets.proofs.bitrows.same_rows.Goals as goal

pub returns : goal.returns
returns c =
    let e = row_part c.args.sets.now c.args.w c.args.i in
    let f = row_part c.args.sets.now c.args.w c.args.j in
    let d = slice_eq-Decides Decides-eqb _ _ c.eq.result c.eq.ensures in
    (λ t. sym e ∙ d.0 t ∙ f, λ r. d.1 (e ∙ r ∙ sym f))
