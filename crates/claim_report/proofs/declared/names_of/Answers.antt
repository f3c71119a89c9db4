use Rattle.std.proofs.Common.{◌≡◌, ◌-◌, ◌++◌, ◌∷◌, map, length, take, drop, string_bytes, ap, sym, ◌∙◌, arith, append_assoc}
use Rattle.resolve.specs.Asks.{declared}
use Rattle.resolve.proofs.ValuesLaws.{head_rest}
use Rattle.claim_report.specs.Named.{other_names}
use Rattle.claim_report.proofs.DeclaredLaws.{names_first}
use Rattle.claim_report.proofs.declared.names_of.Goals as goal

pub loop-rest-preserved-in_ok-push_names : goal.loop-rest-preserved-in_ok-push_names
loop-rest-preserved-in_ok-push_names c =
    let xs = c.loop-rest.rest.now in
    let rest = take (length xs - 1) (drop 1 xs) in
    let parts = head_rest xs c.item-item.result (omega (arith, c.in-len1-up.len_at_least)) c.item-item.is ∙ ap (λ z. z ∷ rest) c.in-Free.is in
    let all = map (λ n. n.now) c.loop-rest.all.items in
    let here = map (λ x. string_bytes x.text) c.in-Free.names.items in
    let more = other_names (declared rest) in
    let grown : map (λ n. n.now) c.push_names.new.all.items ≡ all ++ here = c.in_ok-push_names.ensures ∙ ap (λ l. all ++ map (λ x. string_bytes x.text) l) c.deref.ensures.value in
    let first : other_names (declared xs) ≡ here ++ more = ap (λ l. other_names (declared l)) parts ∙ names_first c.in-Free.field-0 c.in-Free.names.items (declared rest) in
    ap (λ l. l ++ more) grown ∙ append_assoc all here more ∙ ap (λ l. all ++ l) (sym first) ∙ c.loop-rest.invariant
