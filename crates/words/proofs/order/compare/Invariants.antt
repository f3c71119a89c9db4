use Rattle.std.proofs.Common.{◌≡◌, ℕ, ◌-◌, ◌<◌, ◌≤◌, length, get_or}
use Rattle.words.proofs.order.compare.Given as goal

-- the columns before place i are the same
abbrev pub invariant-loop-i : goal.invariant-loop-i
invariant-loop-i l = (length l.u ≡ length l.v) × (l.i ≤ length l.u) × ((j : ℕ) → j < l.i → get_or l.u j 0 ≡ get_or l.v j 0)

abbrev pub decreases-loop-i : goal.decreases-loop-i
decreases-loop-i l = length l.u - l.i
