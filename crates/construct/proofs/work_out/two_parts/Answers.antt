use Rattle.std.proofs.Common.{◌-◌, [], ◌∷◌, length, take, refl, ap, arith}
use Rattle.claims.proofs.FrontLaws.{no_first}
use Rattle.construct.proofs.SignLaws.{first_longer, second_longer}
use Rattle.construct.proofs.work_out.two_parts.Goals as goal

pub unreachable-requires : goal.unreachable-requires
unreachable-requires c = no_first c.args.k c.args.rest.now (5 ∷ c.args.rest.now) refl c.in_default.ensures c.requires.0 [] c.requires.1

pub returns-then-first-second : goal.returns-then-first-second
returns-then-first-second c =
    let (d, f) = c.in-Some.ensures in
    second_longer c.args.k c.args.rest.now (take (length c.args.rest.now - length c.in-Some.second.now - 0) c.args.rest.now) c.in-Some.second.now c.requires d f
    (ap (λ z. take z c.args.rest.now) (omega arith)) c.if-first-second.true

pub returns-else-first-second : goal.returns-else-first-second
returns-else-first-second c =
    let (d, f) = c.in-Some.ensures in
    first_longer c.args.k c.args.rest.now (take (length c.args.rest.now - length c.in-Some.second.now - 0) c.args.rest.now) c.in-Some.second.now c.requires d f
    (ap (λ z. take z c.args.rest.now) (omega arith)) c.if-first-second.false
