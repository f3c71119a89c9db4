use Rattle.row_judge.proofs.FindingLaws.{answered, first_in_out}
use Rattle.row_judge.proofs.finding.first_word.Goals as goal

pub unreachable-requires : goal.unreachable-requires
unreachable-requires c = answered _ _ _ _ _ _ c.judge.ensures c.requires.claim c.requires.not_all c.requires.work c.requires.out c.in-Always.is

pub returns-in-Both : goal.returns-in-Both
returns-in-Both c = λ k d claim.
    let (fits, words) = c.in-Both.ensures.says k d claim in
    let (u, v, f, g, a, b, first, second, rest) = words in
    first_in_out k c.args.most d u _ c.in-Both.first fits f a first
