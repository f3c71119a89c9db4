use Rattle.std.proofs.Common.{◌≡◌, ◌<◌, ◌≤◌, ℕ, Some, Vec, Global, [], length, ap, sym, subst, ◌∙◌, arith}
use Rattle.strengthening.proofs.SearchLaws.{reached_choice, first_of_all}
use Rattle.strengthen.specs.Listed.{KeptWith, Fewest}
use Rattle.strengthen.specs.Told.{IsTooLarge}
use Rattle.strengthen.specs.declared.answer.LargeChoice.{LargeChoice}
use Rattle.strengthen.specs.declared.search.Stop.TheVariants as stop
use Rattle.strengthen.proofs.GoingLaws.{of_some}
use Rattle.strengthen.proofs.strengthen.search_all.Goals as goal

pub returns-in-Some-Kept : goal.returns-in-Some-Kept
returns-in-Some-Kept g c =
    let x = c.args.problem.given in
    let n = length x.helpers.now in
    let is = c.in-Some-Kept.choice.items in
    let r = of_some x c.args.problem.memory 0 c.loop-count.count [] c.in_ok-search.field-0 (stop.Kept c.in-Some-Kept.choice) (c.in-Some-Kept.is ∙ ap Some c.in-Some-Kept.field-0-is) c.in_ok-search.ensures.searched in
    let fewest : Fewest x is = record {
      choice = reached_choice n (KeptWith x) c.loop-count.count is (omega arith) r.0;
      kept = r.1;
      first = first_of_all n (KeptWith x) c.loop-count.count is c.loop-count.invariant.none r.0;
    } in
    subst (λ (v : Vec ℕ Global). Fewest x v.items) (sym c.in-Some-Kept.choice-is) fewest

pub returns-in-Some-TooLarge : goal.returns-in-Some-TooLarge
returns-in-Some-TooLarge g c =
    let x = c.args.problem.given in
    let n = length x.helpers.now in
    let is = c.in-Some-TooLarge.large.choice.items in
    let r = of_some x c.args.problem.memory 0 c.loop-count.count [] c.in_ok-search.field-0 (stop.TooLarge c.in-Some-TooLarge.large) (c.in-Some-TooLarge.is ∙ ap Some c.in-Some-TooLarge.field-0-is) c.in_ok-search.ensures.searched in
    let large : IsTooLarge x c.args.problem.memory c.in-Some-TooLarge.large = record {
      choice = reached_choice n (KeptWith x) c.loop-count.count is (omega arith) r.0;
      first = first_of_all n (KeptWith x) c.loop-count.count is c.loop-count.invariant.none r.0;
      large = r.1;
    } in
    subst (λ (v : LargeChoice). IsTooLarge x c.args.problem.memory v) (sym c.in-Some-TooLarge.large-is) large
