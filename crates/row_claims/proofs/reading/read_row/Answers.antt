use Rattle.std.proofs.Common.{◌≡◌, length, rules}
use Rattle.row_claims.specs.Trees.{said}
use Rattle.row_claims.proofs.FrontLaws.{carry, none_behind, none_longer}
use Rattle.row_claims.proofs.reading.read_row.Goals as goal

pub returns-in_err-c : goal.returns-in_err-c
returns-in_err-c c = carry _ _ _ _ c.from_residual.ensures.1 (λ q. none_behind _ _ _ c.in-Some.ensures (c.in_err-c.ensures q))

pub returns-else-is_empty : goal.returns-else-is_empty
returns-else-is_empty c =
    let l : length c.in_ok-c.rest.now ≡ 0 → ⊥ = search rules in
    λ q. none_longer _ _ (said c.in_ok-c.c) _ _ c.in-Some.ensures c.in_ok-c.ensures l
