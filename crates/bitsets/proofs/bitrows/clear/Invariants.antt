use Rattle.std.proofs.Common.{◌≡◌, ℕ, ◌<◌, get_or}
use Rattle.bitsets.proofs.bitrows.clear.Given as goal

-- the words so far are 0
abbrev pub invariant-loop-word : goal.invariant-loop-word
invariant-loop-word l = (z : ℕ) → z < l.word-index → get_or l.row z 0 ≡ 0
