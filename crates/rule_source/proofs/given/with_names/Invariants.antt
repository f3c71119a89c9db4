use Rattle.std.proofs.Common.{◌≡◌, ◌||◌, ℕ, eqb, take}
use Rattle.std.specs.List.{list_any}
use Rattle.words.specs.Words.{bit}
use Rattle.rule_source.specs.Patterns.{number}
use Rattle.rule_source.proofs.given.with_names.Given as goal

-- the column with the first of the names
abbrev pub invariant-loop-joined : goal.invariant-loop-joined
invariant-loop-joined l = (j : ℕ) → bit j l.column ≡ bit j l.fn.column || list_any (λ m. eqb (number l.bits m.name) j) (take l.joined-index l.more)
