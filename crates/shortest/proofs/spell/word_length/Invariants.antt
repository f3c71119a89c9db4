use Rattle.std.proofs.Common.{◌≡◌, ℕ, ◌+◌, ◌≤◌, List, length}
use Rattle.shortest.specs.Spell.{word}
use Rattle.shortest.proofs.spell.word_length.Given as goal

-- the columns before the place reached are still to be counted
abbrev pub invariant-loop-at : goal.invariant-loop-at
invariant-loop-at l = (l.at + l.steps ≤ l.j) × ((via : List ℕ) → length (word l.prev via l.at) + l.steps ≡ length (word l.prev via l.j))

abbrev pub decreases-loop-at : goal.decreases-loop-at
decreases-loop-at l = l.at
