use Rattle.std.proofs.Common.{◌≡◌, ◌%◌, ◌^◌, map, ap, ◌∙◌, subst}
use Rattle.first_word.specs.Finding.{Finds}
use Rattle.rows.proofs.ModulesLaws.{unmarked}
use Rattle.rule_check.proofs.FoundLaws.{first_row}
use Rattle.rule_check.proofs.first_row.found.Goals as goal

pub returns-in_ok-modules-in-First : goal.returns-in_ok-modules-in-First
returns-in_ok-modules-in-First c = λ k d claim.
    let word = c.in-First.word in
    let found = subst (Finds c.args.claim.now c.args.n) c.in-First.is c.in_ok-first_word_in.ensures k d claim in
    let m : c.in_ok-modules-in-First.field-0.items ≡ map (λ x. x % 2 ^ c.args.bits) word.items = c.in_ok-modules-in-First.ensures ∙ ap (λ t. map (λ x. x % 2 ^ c.args.bits) t) c.deref.ensures.value in
    (word.items, first_row k d word.items found.1, λ w columns e. m ∙ ap (λ t. map (λ x. x % 2 ^ c.args.bits) t) e ∙ unmarked c.args.bits w columns)
