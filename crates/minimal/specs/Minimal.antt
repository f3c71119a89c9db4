-- The smallest automaton of a claim, or why there is none.
use Rattle.std.specs.Prelude.{ℕ, ◌≡◌, ◌+◌, ◌<◌, ◌≤◌, Bool, List}
use Rattle.words.specs.Words.{Word}
use Rattle.claims.specs.Claims.{C, Of}
use Rattle.claims.specs.Sizes.{Fits}
use Rattle.claims.specs.Rows.{Claim, IsClaim}
use Rattle.automata.specs.Search.{Ranked}
use Rattle.automata.specs.Tables.{Table, Collapsed}
use Rattle.workspace.specs.Floor.{NoRoom}
use Rattle.minimal.specs.View.{states, leads, accepts}
use Rattle.minimal.specs.declared.automaton.Automaton.{Automaton}
use Rattle.minimal.specs.declared.refusal.Refusal.{Refusal}
use Rattle.minimal.specs.declared.refusal.Refusal.TheVariants.{NoClaim, TooLarge, OutOfMemory}

-- a table of m classes accepts exactly the words of which claim c is true, and each class is
-- reached from the start (table); any two classes are told apart by a word (apart); no table that
-- says the claim has fewer classes (least); and the classes are numbered in the order in which a
-- search from the start finds them (ordered)
pub record Smallest (k : ℕ) (c : C) (m : ℕ) (δ : ℕ → ℕ → ℕ) (f : ℕ → Bool) : Type 0 where
  pub table : Table k (Of c) m δ f
  pub apart : Collapsed k m δ f
  pub least : (n : ℕ) (ε : ℕ → ℕ → ℕ) (g : ℕ → Bool) → Table k (Of c) n ε g → m ≤ n
  pub ordered : (ws : ℕ → Word) × Ranked k m δ ws

-- the automaton reads words of k sets, and is such a table of the claim
pub record Minimal (k : ℕ) (c : C) (t : Automaton) : Type 0 where
  pub sets : t.sets ≡ k
  pub smallest : Smallest k c (states t) (leads t) (accepts t)

-- of bytes s: they are a claim, which fits into n, at most the number allowed, and the automaton is
-- the smallest of it
pub record Made (s : List ℕ) (most : ℕ) (t : Automaton) : Type 0 where
  pub claim : IsClaim s
  pub minimal : (k : ℕ) (c : C) → Claim s k c → Minimal k c t
  pub fits : (k : ℕ) (c : C) → Claim s k c → (n : ℕ) × (n ≤ most) × Fits k n c

-- n classes do not suffice for the claim, and these are all that are allowed or that 4 MiB have
-- room for
pub record TooMany (s : List ℕ) (most n : ℕ) : Type 0 where
  pub claim : IsClaim s
  pub many : (k : ℕ) (c : C) → Claim s k c → Fits k n c → ⊥
  pub within : n ≤ most
  pub memory : n < most → NoRoom s (n + 1)

abbrev pub Refused : List ℕ → ℕ → Refusal → Type 0
Refused s most NoClaim = IsClaim s → ⊥
Refused s most (TooLarge n) = TooMany s most n
Refused s most OutOfMemory = Unit {0}
