use Rattle.std.proofs.Common.{ℕ, ◌+◌, ◌-◌, List, ◌++◌, map, filter, Global, Vec, ap, ◌∙◌, arith}
use Rattle.strengthen.specs.Before.{behind, words_from}
use Rattle.strengthen.proofs.BeforeLaws.{step, finished}
use Rattle.strengthen.proofs.before.+push_from.Goals as goal

abbrev words : List (Vec ℕ Global) → List (List ℕ)
words cs = map (λ (c : Vec ℕ Global). c.items) cs

pub loop-c-preserved : goal.loop-c-preserved
loop-c-preserved t c = record {
  rest = λ p d. (
      let front = c.args.front in
      let i = c.loop-c.c in
      let longer = c.deref.ensures.value ∙ c.in_ok-choice-2.ensures.items in
      step p front.choice.now front.count c.args.n i (words c.loop-c.found.items) (words c.push_from.new.found.items) _ c.loop-c.invariant.some (omega arith) (c.loop-c.invariant.rest p d)
      (c.in_ok-push_from.ensures p d ∙ ap (λ z. words c.loop-c.found.items ++ filter p (behind z (words_from (front.count - 1) (c.args.n - (i + 1)) (i + 1)))) longer)
      );
  some = c.loop-c.invariant.some;
}

pub returns : goal.returns
returns t c p d = finished p c.args.front.choice.now c.args.front.count c.args.n c.loop-c.c (words c.loop-c.found.items) _ c.loop-c.invariant.some (omega arith) (c.loop-c.invariant.rest p d)
