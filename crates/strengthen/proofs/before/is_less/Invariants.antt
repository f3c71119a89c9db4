use Rattle.std.proofs.Common.{◌≡◌, ℕ, ◌<◌, length, get_or}
use Rattle.strengthen.proofs.before.is_less.Given as goal

-- the numbers before place i are the same
abbrev pub invariant-loop-i : goal.invariant-loop-i
invariant-loop-i l = (length l.u ≡ length l.v) × ((j : ℕ) → j < l.i → get_or l.u j 0 ≡ get_or l.v j 0)
