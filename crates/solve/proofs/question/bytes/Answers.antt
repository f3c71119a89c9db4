use Rattle.std.proofs.Common.{◌≡◌, ◌++◌, ◌∙◌, ◌↔◌, ap, subst}
use Rattle.formulas.specs.Meaning.{Meaning}
use Rattle.formula_claims.specs.Claimed.{Claimed}
use Rattle.resolve.specs.Says.{text}
use Rattle.resolve.specs.Asks.{free, all_hold}
use Rattle.resolve.proofs.Iff.{iff_trans, iff_and}
use Rattle.solve.specs.Questions.{others, others_in, row_from, row_in, row_name, InRowIf}
use Rattle.solve.proofs.QuestionLaws.{posed_says}
use Rattle.solve.proofs.question.bytes.Goals as goal

pub returns-clause-puts : goal.returns-clause-puts
returns-clause-puts c =
    let items = c.args.items.now in
    let asks = c.in_ok-asked.ensures.asks in
    let asked = c.in_ok-asked.asked in
    let front = c.in_ok-row.ensures.names ∙ ap (λ l. l ++ others 0 (free c.deref.result.now)) c.new-names.ensures.items
    ∙ ap (λ l. others 0 (free l)) c.deref.ensures.value ∙ ap (λ l. others 0 l) asks.names in
    let row : c.in_ok-row.row ≡ row_in items = c.in_ok-row.ensures.row ∙ ap (λ l. row_from 0 (free l)) c.deref.ensures.value ∙ ap (λ l. row_from 0 l) asks.names in
    let names = c.deref-4.ensures.value ∙ c.in_ok-push_row.ensures ∙ ap (λ l. l ++ row_name c.in_ok-row.row) front ∙ ap (λ o. others_in items ++ row_name o) row in
    let inner = c.in_ok-formula.formula.value in
    let whole = c.in_ok-formula-2.formula.value in
    record {
      formula = whole;
      claimed = subst (λ l. Claimed l whole c.in_ok-bytes.bytes.items) names (rw c.deref-3.ensures at c.in_ok-bytes.ensures);
      means = λ e. (
          let placed = subst (λ l. Meaning whole e ↔ (InRowIf c.in_ok-row.row l e × Meaning inner e)) (c.deref-2.ensures.value ∙ front) (c.in_ok-formula-2.ensures e) in
          let rowed = subst (λ o. Meaning whole e ↔ (InRowIf o (others_in items) e × Meaning inner e)) row placed in
          iff_trans (iff_trans rowed (iff_and (λ h. h, λ h. h) (c.in_ok-formula.ensures e)))
          (posed_says c.args.opposite (InRowIf (row_in items) (others_in items) e) (all_hold asked.assumed.items e) (all_hold asked.claimed.items e) (text items e).assumed (text items e).claimed (asks.assumed e) (asks.claimed e))
          );
    }
