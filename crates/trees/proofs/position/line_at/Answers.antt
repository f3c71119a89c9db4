use Rattle.std.proofs.Common.{take, drop}
use Rattle.trees.proofs.LineLaws.{line_is, first_within, last_within}
use Rattle.trees.proofs.position.line_at.Goals as goal

pub returns : goal.returns
returns c =
    let front = take c.args.index c.args.text.now in
    let rest = drop c.args.index c.args.text.now in
    rw c.last_line.ensures.long (rw c.first_line.ensures.long (rw c.front-front.ensures (rw c.behind-rest.ensures
    (line_is c.args.text.now c.args.index _ _ (last_within front) (first_within rest)))))
