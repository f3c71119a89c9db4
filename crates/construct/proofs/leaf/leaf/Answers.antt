use Rattle.std.proofs.Common.{subst, arith}
use Rattle.std.proofs.Math.Pow.{pow_mono}
use Rattle.claims.specs.Claims.{atom as claim}
use Rattle.claims.specs.Sizes.{Fits}
use Rattle.construct.proofs.WorkOutLaws.{few_sets, leaf_held}
use Rattle.construct.proofs.leaf.leaf.Goals as goal

pub atom_table-requires-clause-columns : goal.atom_table-requires-clause-columns
atom_table-requires-clause-columns c =
    let w = c.args.work.now in
    let l = few_sets c.mentioned-sets.result w.sets c.args.atom w.shape.sets c.mentioned-sets.ensures.of c.mentioned-sets.ensures.chosen c.requires.narrow in
    rw c.requires.shape l

pub atom_table-requires-clause-scratch : goal.atom_table-requires-clause-scratch
atom_table-requires-clause-scratch c =
    let w = c.args.work.now in
    let l = few_sets c.mentioned-sets.result w.sets c.args.atom w.shape.sets c.mentioned-sets.ensures.of c.mentioned-sets.ensures.chosen c.requires.narrow in
    let m = pow_mono l in
    omega (arith, w.shape.wide, w.scratch_fits)

pub returns-in_err-classes-clause-table : goal.returns-in_err-classes-clause-table
returns-in_err-classes-clause-table c = rw c.from_residual.ensures (subst (λ k. Fits k c.args.sheet.now.shape.most (claim c.args.atom) → ⊥) c.mentioned-sets.ensures.of c.in_err-classes.ensures)

pub returns-clause-table : goal.returns-clause-table
returns-clause-table c =
    let w = c.args.work.now in
    let l = few_sets c.mentioned-sets.result w.sets c.args.atom w.shape.sets c.mentioned-sets.ensures.of c.mentioned-sets.ensures.chosen c.requires.narrow in
    leaf_held w.sets c.args.sheet.now c.atom_table.new.sheet c.args.atom c.mentioned-sets.result c.in_ok-classes.classes c.mentioned-sets.ensures.of c.mentioned-sets.ensures.chosen (rw c.requires.shape l) c.in_ok-classes.ensures
