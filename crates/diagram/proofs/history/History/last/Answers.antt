use Rattle.std.proofs.Common.{◌≡◌, ◌-◌, length, get_or, refl, arith, rules}
use Rattle.std.proofs.lemmas.Option.{slice_get_read}
use Rattle.diagram.proofs.history.History.last.Goals as goal

pub returns-clause-last : goal.returns-clause-last
returns-clause-last c =
    let rows = c.args.self.now.rows.items in
    let row = c.index.result.now in
    let read : row ≡ get_or rows (length rows - 1) row = search rules in
    record { row = row; is_last = slice_get_read rows (length rows) (length rows - 1) row refl (omega arith) read; its_columns = search rules }
