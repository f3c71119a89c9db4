use Rattle.std.proofs.Common.{sym, ◌∙◌}
use Rattle.rows.specs.Local.{names}
use Rattle.rules.specs.Local.{local_of, with_kept}
use Rattle.rules.proofs.FreshLaws.{neither, fresh_is}
use Rattle.rules.proofs.local.fresh.Goals as goal

pub returns-then-not-is_taken : goal.returns-then-not-is_taken
returns-then-not-is_taken c =
    let f = with_kept c.args.kept (local_of c.args.f.now) in
    fresh_is c.args.p f c.loop-y.y (neither c.loop-y.y c.args.p (names f c.loop-y.y) c.if-y-p.true (sym c.is_taken.ensures.named ∙ c.if-not-is_taken.true)) c.loop-y.invariant.taken
