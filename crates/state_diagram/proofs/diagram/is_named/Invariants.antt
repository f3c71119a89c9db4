use Rattle.std.proofs.Common.{◌≡◌, ℕ, ◌%◌, ◌^◌, ◌<◌, get_or}
use Rattle.state_diagram.proofs.diagram.is_named.Given as goal

-- the columns before a lead where their named sets alone do
abbrev pub invariant-loop-a : goal.invariant-loop-a
invariant-loop-a l = (b : ℕ) → b < l.a → get_or l.row b 0 ≡ get_or l.row (b % 2 ^ l.named) 0
