use Rattle.std.proofs.Common.{◌≡◌, ℕ, length, slice_get, Some}
use Rattle.state_diagram.specs.Drawn.{DrawnState}
use Rattle.state_diagram.specs.declared.diagram.State.{State}
use Rattle.state_diagram.proofs.diagram.state_diagram.Given as goal

-- the states before q are drawn
abbrev pub invariant-loop-q : goal.invariant-loop-q
invariant-loop-q l = (length l.states.items ≡ l.q) × ((p : ℕ) (s : State) → slice_get l.states.items p ≡ Some s → DrawnState l.automaton l.named p s)
