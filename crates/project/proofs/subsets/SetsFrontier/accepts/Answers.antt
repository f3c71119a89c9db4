use Rattle.std.proofs.Common.{ℕ, List, Decides, subst, sym, arith}
use Rattle.tables.specs.Cells.{accepts}
use Rattle.bitsets.specs.Bitrows.{has, Below, Meets}
use Rattle.bitsets.proofs.BitrowsLaws.{row_part}
use Rattle.project.proofs.SubsetsLaws.{meets_says}
use Rattle.project.proofs.subsets.SetsFrontier.accepts.Goals as goal

pub meets-requires-clause-inside : goal.meets-requires-clause-inside
meets-requires-clause-inside c q e =
    let f = c.args.self.now in
    let P : List ℕ → Type 0 = λ x. Below f.part.t.table.classes (has x) in
    let h = subst P (sym (row_part f.sets.now f.part.w c.args.i)) (c.requires.holds.below c.args.i c.requires.row) q e in
    omega (arith, f.part.completed_fits)

pub returns : goal.returns
returns c =
    let f = c.args.self.now in
    let g = accepts f.part.completed.now in
    let P : List ℕ → Type 0 = λ x. Decides c.meets.result (Meets (has x) g) in
    meets_says f.part.t.table.classes g _ c.meets.result (c.requires.holds.below c.args.i c.requires.row) (subst P (row_part f.sets.now f.part.w c.args.i) c.meets.ensures)
