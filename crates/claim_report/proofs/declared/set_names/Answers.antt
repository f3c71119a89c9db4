use Rattle.std.proofs.Common.{◌≡◌, ◌-◌, ◌++◌, ◌∷◌, map, length, take, drop, ap, sym, ◌∙◌, arith}
use Rattle.resolve.specs.Asks.{declared}
use Rattle.resolve.proofs.ValuesLaws.{head_rest}
use Rattle.claim_report.specs.Named.{row_names}
use Rattle.claim_report.proofs.DeclaredLaws.{rows_behind}
use Rattle.claim_report.proofs.declared.set_names.Goals as goal

pub loop-rest-preserved-in-Free : goal.loop-rest-preserved-in-Free
loop-rest-preserved-in-Free c =
    let xs = c.loop-rest.rest.now in
    let rest = take (length xs - 1) (drop 1 xs) in
    let parts = head_rest xs c.item-item.result (omega (arith, c.in-len1-up.len_at_least)) c.item-item.is ∙ ap (λ z. z ∷ rest) c.in-Free.is in
    let same : row_names (declared xs) ≡ row_names (declared rest) = ap (λ l. row_names (declared l)) parts ∙ rows_behind c.in-Free.field-0 c.in-Free.field-1.items (declared rest) in
    ap (λ l. map (λ n. n.now) c.loop-rest.all.items ++ l) (sym same) ∙ c.loop-rest.invariant
