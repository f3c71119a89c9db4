use Rattle.std.proofs.Common.{◌≡◌, ℕ, List, length, sym, subst, ◌∙◌}
use Rattle.strengthening.specs.Search.{Reaches}
use Rattle.strengthening.proofs.SearchLaws.{reached}
use Rattle.strengthen.specs.Known.{IsJudged}
use Rattle.strengthen.specs.Listed.{KeptWith, LargeWith}
use Rattle.strengthen.specs.declared.judge.Judged.{Judged}
use Rattle.strengthen.specs.declared.judge.Judged.TheVariants as judged
use Rattle.strengthen.proofs.search.complete.Goals as goal

pub returns-in-Kept-clause-searched : goal.returns-in-Kept-clause-searched
returns-in-Kept-clause-searched g c =
    let x = c.args.problem.given in
    let f = c.args.front in
    let n = length x.helpers.now in
    let kept : KeptWith x f.choice.now = subst (λ (j : Judged). IsJudged x c.args.problem.memory f.choice.now j) c.in-Kept.is c.in_ok-judged.ensures.judged in
    let at : Reaches (KeptWith x) f.from n f.count f.choice.now f.choice.now = subst (λ (m : ℕ). Reaches (KeptWith x) f.from n m f.choice.now f.choice.now) (sym c.requires.complete) (reached n (KeptWith x) f.from f.choice.now) in
    let same : c.in_ok-choice.choice.items ≡ f.choice.now = c.in_ok-choice.ensures.items in
    subst (λ (is : List ℕ). Reaches (KeptWith x) f.from n f.count f.choice.now is × KeptWith x is) (sym same) (at, kept)

pub returns-in-TooLarge-clause-searched : goal.returns-in-TooLarge-clause-searched
returns-in-TooLarge-clause-searched g c =
    let x = c.args.problem.given in
    let f = c.args.front in
    let n = length x.helpers.now in
    let large : LargeWith x c.args.problem.memory f.choice.now c.in-TooLarge.large = subst (λ (j : Judged). IsJudged x c.args.problem.memory f.choice.now j) c.in-TooLarge.is c.in_ok-judged.ensures.judged in
    let at : Reaches (KeptWith x) f.from n f.count f.choice.now f.choice.now = subst (λ (m : ℕ). Reaches (KeptWith x) f.from n m f.choice.now f.choice.now) (sym c.requires.complete) (reached n (KeptWith x) f.from f.choice.now) in
    let same : c.in_ok-choice.choice.items ≡ f.choice.now = c.in_ok-choice.ensures.items in
    subst (λ (is : List ℕ). Reaches (KeptWith x) f.from n f.count f.choice.now is × LargeWith x c.args.problem.memory is c.in-TooLarge.large) (sym same) (at, large)
