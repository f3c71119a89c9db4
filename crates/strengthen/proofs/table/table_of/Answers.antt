use Rattle.std.proofs.Common.{◌≡◌, ◌<◌, ◌+◌, ℕ, suc, List, ap, sym, subst, ◌∙◌, arith}
use Rattle.claims.specs.Claims.{C, and1}
use Rattle.claims.specs.Encoded.{sets_needed}
use Rattle.claims.specs.Rows.{Claim}
use Rattle.claims.specs.Trees.{said}
use Rattle.minimal.specs.Minimal.{Minimal}
use Rattle.rows.specs.RowClaims.{is_row}
use Rattle.rules.proofs.ChangedLaws.{is_true}
use Rattle.strengthen.proofs.TableLaws.{row_claim, recognizes}
use Rattle.strengthen.proofs.table.table_of.Goals as goal

above : (b : ℕ) (c : C) → b < sets_needed (suc b) c
above b c = omega arith

pub returns-in-Ok-automaton_of : goal.returns-in-Ok-automaton_of
returns-in-Ok-automaton_of c =
    let r = c.args.rule.now in
    let t = c.in-Ok-automaton_of.automaton in
    let x = said c.in_ok-claim.claim in
    let k = sets_needed (suc r.bits) x in
    let is : x ≡ row_claim r.bits c.args.formula.now = c.in_ok-claim.ensures ∙ ap (λ y. and1 (is_row r.bits) y) c.in_ok-said.ensures in
    let plus : r.bits + 1 ≡ suc r.bits = omega arith in
    let bytes : Claim c.deref.result.now k x = subst (λ (s : List ℕ). Claim s k x) (sym c.deref.ensures.value) (subst (λ (m : ℕ). Claim c.in-Ok.bytes.items (sets_needed m x) x) plus c.in-Ok.ensures) in
    recognizes r.bits k r.one (above r.bits x) c.args.formula.now (is_true _ c.requires.names) t (subst (λ (y : C). Minimal k y t) is (c.in-Ok-automaton_of.ensures.minimal k x bytes))
