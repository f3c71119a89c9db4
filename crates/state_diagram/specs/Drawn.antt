-- What the states of a diagram say of an automaton.
use Rattle.std.specs.Prelude.{◌≡◌, ◌≢◌, ℕ, ◌%◌, ◌^◌, ◌<◌, List, [], ◌∷◌, All, length, slice_get, Some}
use Rattle.minimal.specs.View.{states, leads, accepts}
use Rattle.minimal.specs.declared.automaton.Automaton.{Automaton}
use Rattle.transitions.specs.Patterns.{leads as transitions_lead, HasLetters}
use Rattle.state_diagram.specs.declared.diagram.State.{State}
use Rattle.state_diagram.specs.declared.diagram.Undrawn.{Undrawn}
use Rattle.state_diagram.specs.declared.diagram.Undrawn.TheVariants.{Unnamed as IsUnnamed, OutOfMemory}

-- state q: it accepts as the automaton's does, each column fits exactly one of its transitions, which leads where the automaton does, and patterns have a letter for each of n sets
pub record DrawnState (t : Automaton) (n q : ℕ) (s : State) : Type 0 where
  pub accepts_same : s.accepts ≡ accepts t q
  pub leads_same : (a : ℕ) → a < 2 ^ t.sets → transitions_lead s.transitions.items a ≡ leads t q a ∷ []
  pub letters : All (HasLetters n) s.transitions.items

-- all states of the automaton, in their order
pub record Drawn (t : Automaton) (n : ℕ) (ss : List State) : Type 0 where
  pub size : length ss ≡ states t
  pub each : (q : ℕ) (s : State) → slice_get ss q ≡ Some s → DrawnState t n q s

-- where a column leads depends on more than its first n sets
abbrev pub Unnamed : Automaton → ℕ → Undrawn → Type 0
Unnamed t n IsUnnamed = (q : ℕ) × (a : ℕ) × (q < states t) × (a < 2 ^ t.sets) × (leads t q a ≢ leads t q (a % 2 ^ n))
Unnamed t n OutOfMemory = Unit {0}
