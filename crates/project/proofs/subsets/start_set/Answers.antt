use Rattle.std.proofs.Common.{◌-◌, sym, ap, ◌∙◌, inl, inr, arith, length-take}
use mathlib.Core.Bool.{false≢true}
use borrow.Rule.Slice.PartMut.{post_of}
use Rattle.bitsets.specs.Bitrows.{has}
use Rattle.bitsets.proofs.BitrowsLaws.{row_first}
use Rattle.project.proofs.SubsetsLaws.{start_made}
use Rattle.project.proofs.subsets.start_set.Goals as goal

pub returns : goal.returns
returns c =
    let p = c.args.p.now in
    let row = c.put_live.new.row in
    let l = length-take (p.w - 0) c.args.sets.now in
    ap has (row_first row (post_of 0 (p.w - 0) c.args.sets.now) p.w (omega arith))
    ∙ start_made p.t.table.classes p.dead (has row) p.some (λ q. (
      λ t. elim ((c.put_live.ensures q).0 t) [ inl u ↦ absurd (false≢true (sym (c.clear.ensures q) ∙ u)) | inr u ↦ u ],
      λ u. (c.put_live.ensures q).1 (inr u),
    ))
