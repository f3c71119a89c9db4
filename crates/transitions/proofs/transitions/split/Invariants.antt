use Rattle.std.proofs.Common.{◌≡◌, ℕ, ◌+◌, ◌*◌, ◌<◌, length, get_or}
use Rattle.transitions.proofs.transitions.split.Given as goal

-- the first j pairs of entries are parted
abbrev pub invariant-loop-j : goal.invariant-loop-j
invariant-loop-j l = (length l.without.items ≡ l.j) × (length l.with.items ≡ l.j) × ((i : ℕ) → i < l.j → get_or l.without.items i 0 ≡ get_or l.row (2 * i) 0) × ((i : ℕ) → i < l.j → get_or l.with.items i 0 ≡ get_or l.row (2 * i + 1) 0)
