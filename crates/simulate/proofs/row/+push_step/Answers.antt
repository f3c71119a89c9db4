use Rattle.simulate.specs.Seen.{place_of}
use Rattle.simulate.proofs.RowLaws.{step_pushed}
use Rattle.simulate.proofs.row.+push_step.Goals as goal

pub returns : goal.returns
returns n c =
    rw
    (step_pushed c.args.bits c.args.table.now (place_of c.args.beside.left) (place_of c.args.beside.right) (place_of c.front.result) c.args.row.now c.after.result c.args.after.now.items c.push.new.self.items c.in-len1-up.len_at_least
    c.front.ensures c.after.ensures.column c.in_ok-push.ensures.items)
    c.push_step.ensures
