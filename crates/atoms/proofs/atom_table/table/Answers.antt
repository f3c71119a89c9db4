use Rattle.std.proofs.Common.{◌∙◌}
use Rattle.atoms.proofs.AtomTableLaws.{atom_exact, no_excess}
use Rattle.atoms.proofs.atom_table.table.Goals as goal

pub returns-in_err-count : goal.returns-in_err-count
returns-in_err-count g c = absurd (no_excess _ _ _ (g.met.K.Kind.told) (g.met.K.Kind.right c.args.kind) (g.met.K.Kind.looks c.args.kind) c.args.sets c.requires.about c.requires.mentioned c.new-shape.result.most c.new-shape.ensures.most c.in_err-count.ensures)

pub returns : goal.returns
returns g c = atom_exact _ _ _ (g.met.K.Kind.told) (g.met.K.Kind.right c.args.kind) (g.met.K.Kind.looks c.args.kind) c.args.sets c.requires.about c.requires.mentioned c.args.sheet.now c.minimize.new.sheet c.in_ok-count.ensures (c.new-shape.ensures.sets ∙ c.count.ensures.value) c.table.result c.table.ensures c.minimize.result c.minimize.ensures
