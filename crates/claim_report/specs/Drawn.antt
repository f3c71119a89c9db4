-- The smallest automaton of a text's claim, and its diagram.
use Rattle.std.specs.Prelude.{ℕ, List, length, min}
use Rattle.claims.specs.Claims.{C}
use Rattle.claims.specs.Rows.{Claim}
use Rattle.claims.specs.Sizes.{Fits}
use Rattle.trees.specs.declared.tree.Item.{Item}
use Rattle.solve.specs.Questions.{HoldsOf, Puts, names_of}
use Rattle.resolve.specs.Asks.{declared}
use Rattle.minimal.specs.Minimal.{Minimal}
use Rattle.minimal.specs.declared.automaton.Automaton.{Automaton as Table}
use Rattle.state_diagram.specs.Drawn.{Drawn}
use Rattle.state_diagram.specs.declared.diagram.State.{State}
use Rattle.claim_report.specs.declared.automaton.Smallest.{Smallest}
use Rattle.claim_report.specs.declared.automaton.Smallest.TheVariants.{Automaton, TooLarge}

-- bytes s are the claim that the text's assumptions are met and what it claims is so, of which the automaton is the smallest, or for which n classes do not suffice
abbrev pub OfClaim : List ℕ → Smallest → Type 0
OfClaim s (Automaton t) = (k : ℕ) (c : C) → Claim s k c → Minimal k c t
OfClaim s (TooLarge n) = (k : ℕ) (c : C) → Claim s k c → Fits k n c → ⊥

abbrev pub IsAutomaton : List Item → Smallest → Type 0
IsAutomaton items a = (s : List ℕ) × Puts (names_of items) (HoldsOf items) s × OfClaim s a

-- the automaton has a diagram over the declared names: where a column leads depends on no set without a name
abbrev pub IsDrawn : List Item → Table → Type 0
IsDrawn items t = (states : List State) × Drawn t (min (length (declared items)) t.sets) states
