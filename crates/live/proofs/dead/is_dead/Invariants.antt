use Rattle.std.proofs.Common.{◌≡◌, ℕ, ◌<◌}
use Rattle.tables.specs.Cells.{entry}
use Rattle.live.proofs.dead.is_dead.Given as goal

-- the columns before a lead back
abbrev pub invariant-loop-a : goal.invariant-loop-a
invariant-loop-a l = (b : ℕ) → b < l.a → entry l.t.rows.now l.t.width l.q.0 b ≡ l.q.0
