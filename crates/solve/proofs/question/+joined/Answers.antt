use Rattle.std.proofs.Common.{◌≡◌, ◌++◌, ◌∷◌, [], ◌↔◌, sym, subst, rules, arith}
use Rattle.std.proofs.lemmas.Grind.{common_steps}
use Rattle.formulas.specs.Meaning.{Meaning}
use Rattle.resolve.specs.Asks.{all_hold}
use Rattle.resolve.proofs.Iff.{iff_trans, iff_sym, iff_and, if_ok}
use Rattle.resolve.proofs.AsksLaws.{all_hold_more}
use Rattle.solve.proofs.question.+joined.Goals as goal

pub returns : goal.returns
returns t c =
    let front = c.pop.new.self.items in
    let parts : c.args.all.items ≡ front ++ (c.in-Some.last ∷ []) = first_of (search (rules, c.in-Some.ensures.items), grind (arith, common_steps, c.in-Some.ensures.items, c.in-Some.ensures.rest)) in
    if_ok c.and.result _ _ (λ f h e.
    let both = iff_trans (h e) (iff_and (c.in_ok-whole.ensures e) (λ m. m, λ m. m)) in
    let all = subst (λ l. all_hold l e ↔ (all_hold front e × Meaning c.in-Some.last.formula.value e)) (sym parts) (all_hold_more front c.in-Some.last e) in
    iff_trans both (iff_sym all)) c.and.ensures
