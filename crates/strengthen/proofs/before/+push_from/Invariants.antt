use Rattle.std.proofs.Common.{◌≡◌, ℕ, ◌-◌, ◌<◌, Bool, List, ◌++◌, map, filter, Global, Vec}
use Rattle.std.specs.Option.{option_copied}
use Rattle.strengthen.specs.Before.{Tells, behind, words_from, words_of}
use Rattle.strengthen.proofs.before.+push_from.Given as goal

abbrev pub decreases-push_from : goal.decreases-push_from
decreases-push_from l = l.front.count

-- those found, and those whose next number is c or more, are all
abbrev pub invariant-loop-c : goal.invariant-loop-c
invariant-loop-c l = record {
  rest : (p : List ℕ → Bool) → Tells (option_copied l.end) p → map (λ (c : Vec ℕ Global). c.items) l.found.items ++ filter p (behind l.front.choice.now (words_from l.front.count (l.n - l.c) l.c)) ≡
      map (λ (c : Vec ℕ Global). c.items) l.fn.found.items ++ filter p (words_of l.n l.front);
  some : 0 < l.front.count;
}
