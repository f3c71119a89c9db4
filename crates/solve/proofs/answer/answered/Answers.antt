use Rattle.std.proofs.Common.{◌∙◌, ap, subst, inl, inr}
use Rattle.solve.specs.Answers.{unmarked}
use Rattle.solve.specs.Questions.{HoldsOf, FailsOf}
use Rattle.solve.proofs.AnswerLaws.{FoundOf, always, both, large}
use Rattle.solve.proofs.answer.answered.Goals as goal

pub returns-in-First-First : goal.returns-in-First-First
returns-in-First-First c =
    let n = c.in_ok-n.n in
    let s = c.in_ok-question.question.holds.items in
    let t = c.in_ok-question.question.fails.items in
    let f = subst (λ z. FoundOf z n c.in_ok-holds.holds) c.deref.ensures.value c.in_ok-holds.ensures in
    let g = subst (λ z. FoundOf z n c.in_ok-fails.fails) c.deref-2.ensures.value c.in_ok-fails.ensures in
    both c.args.items.now s t n c.in-First-First.first c.in-First-First.second _ _ c.in_ok-question.ensures.holds c.in_ok-question.ensures.fails
    (subst (λ x. FoundOf s n x) c.in-First-First.is-0 f) (subst (λ x. FoundOf t n x) c.in-First-First.is-1 g)
    (c.in_ok-shown-in-First-First.ensures ∙ ap (λ o. unmarked o c.in-First-First.first.items) c.in_ok-question.ensures.others)
    (c.in_ok-shown-in-First-First-2.ensures ∙ ap (λ o. unmarked o c.in-First-First.second.items) c.in_ok-question.ensures.others)

pub returns-in-First-Nothing : goal.returns-in-First-Nothing
returns-in-First-Nothing c =
    let n = c.in_ok-n.n in
    let s = c.in_ok-question.question.holds.items in
    let t = c.in_ok-question.question.fails.items in
    let f = subst (λ z. FoundOf z n c.in_ok-holds.holds) c.deref.ensures.value c.in_ok-holds.ensures in
    let g = subst (λ z. FoundOf z n c.in_ok-fails.fails) c.deref-2.ensures.value c.in_ok-fails.ensures in
    always c.args.items.now s t n c.in-First-Nothing.field-0-0 c.in_ok-question.ensures.holds c.in_ok-question.ensures.fails
    (subst (λ x. FoundOf s n x) c.in-First-Nothing.is-0 f) (subst (λ x. FoundOf t n x) c.in-First-Nothing.is-1 g)

pub returns-in-TooLarge-default : goal.returns-in-TooLarge-default
returns-in-TooLarge-default c =
    let n = c.in_ok-n.n in
    let s = c.in_ok-question.question.holds.items in
    let f = subst (λ z. FoundOf z n c.in_ok-holds.holds) c.deref.ensures.value c.in_ok-holds.ensures in
    inl (large c.args.items.now (HoldsOf c.args.items.now) s n c.in_ok-question.ensures.holds (subst (λ x. FoundOf s n x) c.in-TooLarge-default.is-0 f))

pub returns-in-First-TooLarge : goal.returns-in-First-TooLarge
returns-in-First-TooLarge c =
    let n = c.in_ok-n.n in
    let t = c.in_ok-question.question.fails.items in
    let g = subst (λ z. FoundOf z n c.in_ok-fails.fails) c.deref-2.ensures.value c.in_ok-fails.ensures in
    inr (large c.args.items.now (FailsOf c.args.items.now) t n c.in_ok-question.ensures.fails (subst (λ x. FoundOf t n x) c.in-First-TooLarge.is-1 g))

pub returns : goal.returns
returns c =
    let n = c.in_ok-n.n in
    let t = c.in_ok-question.question.fails.items in
    let g = subst (λ z. FoundOf z n c.in_ok-fails.fails) c.deref-2.ensures.value c.in_ok-fails.ensures in
    inr (large c.args.items.now (FailsOf c.args.items.now) t n c.in_ok-question.ensures.fails (subst (λ x. FoundOf t n x) c.in-Nothing-TooLarge.is-1 g))
