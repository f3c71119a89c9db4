use Rattle.std.proofs.Common.{get_or, arith}
use Rattle.minimize.proofs.RoundsLaws.{stable_done, joined_copied, joined_few}
use Rattle.minimize.proofs.HalvesLaws.{stable_renumbered}
use Rattle.minimize.proofs.halves.join_by_splitting.Goals as goal

pub returns-clause-alike : goal.returns-clause-alike
returns-clause-alike c =
    let t = c.args.t.table in
    let s = stable_renumbered (λ q a h l. t.below q a h (omega (arith, c.args.t.wide))) c.split.ensures.stable c.copy.ensures c.renumber-count.ensures in
    let done = stable_done c.args.t.wide t.below c.renumber-count.ensures.parts s (omega arith) in
    let copied = joined_copied done (omega arith) (λ q. get_or c.copy-2.new.to q 0) c.copy-2.ensures in
    record { joined = copied; few = joined_few copied }
