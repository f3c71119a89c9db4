use Rattle.std.proofs.Common.{◌≡◌, ℕ, suc, Bool, List, map, filter, Global, Vec}
use Rattle.std.specs.Option.{option_copied}
use Rattle.strengthen.specs.Before.{Tells, words_to}
use Rattle.strengthen.proofs.before.choices_before.Given as goal

-- those of fewer numbers are found
abbrev pub invariant-loop-count : goal.invariant-loop-count
invariant-loop-count l = (p : List ℕ → Bool) → Tells (option_copied l.end) p → (m : ℕ) → l.count ≡ suc m → map (λ (c : Vec ℕ Global). c.items) l.found.items ≡ filter p (words_to l.n m)
