use Rattle.std.proofs.Common.{length, ap, ◌∙◌}
use Rattle.rows.proofs.StepLaws.{as_long}
use Rattle.simulate.proofs.row.step.Goals as goal

pub returns : goal.returns
returns c =
    let e = c.in_ok-after.ensures in
    record { after = e; modules = ap length e ∙ as_long c.args.layout c.args.bits c.args.table.now c.args.row.now }
