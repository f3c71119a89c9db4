use Rattle.std.proofs.Common.{ℕ, ◌≤◌, List, map, length, Global, Vec, sym, subst, arith}
use Rattle.std.specs.Option.{option_copied}
use Rattle.strengthening.proofs.SearchLaws.{less_length}
use Rattle.strengthen.specs.Before.{AreBefore, Before}
use Rattle.strengthen.proofs.BeforeLaws.{longer, are_before, test, tells}
use Rattle.strengthen.proofs.before.choices_before.Goals as goal
use Rattle.strengthen.proofs.before.choices_before.Goals.{in-None, in-Some}

abbrev words : List (Vec ℕ Global) → List (List ℕ)
words cs = map (λ (c : Vec ℕ Global). c.items) cs

pub loop-count-preserved : goal.loop-count-preserved
loop-count-preserved c p d m e = longer p c.args.n c.loop-count.count m (words c.loop-count.found.items) (words c.push_from.new.found.items) (omega arith) e (c.loop-count.invariant p d) (c.in_ok-push_from.ensures p d)

pub returns : goal.returns
returns c =
    let e = option_copied c.args.end in
    let far : (c.match-end.most ≤ 8) × ((js : List ℕ) → length js ≤ 8 → Before e js → length js ≤ c.match-end.most) = elim c.match-end.branch [
      | in-None w ↦ (let m = w.most-is in (omega arith, λ js l b. omega arith))
      | in-Some w ↦ (
          let m = w.most-is in
          let g = w.min-most.ensures in
          (omega arith, λ js l b. (let h = less_length (subst (λ z. Before (option_copied z) js) w.in-Some.is b) in omega arith))
          )
    ] in
    subst (AreBefore c.args.n e) (sym (c.loop-count.invariant (test e) (tells e) c.match-end.most (omega arith))) (are_before (test e) c.args.n e c.match-end.most (tells e) far.0 far.1)
