use Rattle.std.proofs.Common.{◌≡◌, ◌≤◌, ◌++◌, length, drop}
use Rattle.shortest.specs.Spell.{word}
use Rattle.shortest.proofs.spell.write_word.Given as goal

-- the columns from `left` on are written; those before are the word of the number reached
abbrev pub invariant-loop-left : goal.invariant-loop-left
invariant-loop-left l = (l.at ≤ l.j) × (l.left ≡ length (word l.prev l.via l.at)) × (l.left ≤ length l.out) × (word l.prev l.via l.at ++ drop l.left l.out ≡ word l.prev l.via l.j)

abbrev pub decreases-loop-left : goal.decreases-loop-left
decreases-loop-left l = l.left
