use Rattle.std.proofs.Common.{◌≡◌, ℕ, ◌+◌, ◌<◌, get_or, bit_or}
use Rattle.selection.proofs.map.double.Given as goal

-- those before j are put
abbrev pub invariant-loop-j : goal.invariant-loop-j
invariant-loop-j l =
    ((i : ℕ) → i < l.n → get_or l.map i 0 ≡ get_or l.initial.map i 0)
    × ((i : ℕ) → i < l.j → get_or l.map (l.n + i) 0 ≡ bit_or (get_or l.initial.map i 0) l.bit)
