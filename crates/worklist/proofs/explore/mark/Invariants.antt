use Rattle.std.proofs.Common.{◌≡◌, ℕ, ◌<◌}
use Rattle.tables.specs.Cells.{accepts}
use Rattle.worklist.specs.Search.{Same}
use Rattle.worklist.proofs.explore.mark.Given as goal

-- those before i are marked
abbrev pub invariant-loop-i : goal.invariant-loop-i
invariant-loop-i g l = (l.t.rows.now ≡ l.initial.t.rows.now) × Same (g.F.Frontier.seen l.f) (g.F.Frontier.seen l.f) l.initial.t l.t × ((j : ℕ) → j < l.i → accepts l.t.accept.now j ≡ (g.F.Frontier.seen l.f).automaton.accepts ((g.F.Frontier.seen l.f).at j))
