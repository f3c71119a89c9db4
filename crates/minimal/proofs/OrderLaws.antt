-- An exact table, its classes in order, is the smallest automaton of its claim.
use Rattle.std.proofs.Common.{◌≡◌, ℕ, ◌^◌, ◌<◌, ◌≤◌, Bool, sym, ap, ◌∙◌, subst}
use Rattle.words.specs.Languages.{Lang}
use Rattle.words.specs.Words.{Word}
use Rattle.claims.specs.Claims.{C, Of}
use Rattle.automata.specs.Search.{Ranked}
use Rattle.automata.specs.Tables.{Collapsed, Table}
use Rattle.words.specs.Runs.{run}
use Rattle.automata.specs.Worked.{Worked}
use Rattle.automata.proofs.Counting.{pigeon}
use Rattle.automata.proofs.FirstWords.{ordered_same}
use Rattle.automata.proofs.Tables.{alike_left, collapsed_same, run_below, table_exact, table_same}
use Rattle.minimal.specs.Minimal.{Minimal, Smallest}
use Rattle.minimal.specs.View.{accepts, leads, states}
use Rattle.minimal.specs.declared.automaton.Automaton.{Automaton}

-- a table whose classes are told apart has no more classes than any table of the same language: the
-- words by which its classes are found lead apart there
fewest : (k : ℕ) (L : Lang) (n : ℕ) (γ : ℕ → ℕ → ℕ) (g : ℕ → Bool) (ws : ℕ → Word) → Table k L n γ g → Collapsed k n γ g → Ranked k n γ ws → (m : ℕ) (δ : ℕ → ℕ → ℕ) (f : ℕ → Bool) → Table k L m δ f → n ≤ m
fewest k L n γ g ws t apart r m δ f s = pigeon n m (λ i. run δ 0 (ws i))
    (λ i h. run_below k m δ s.connected 0 (ws i) s.connected.start (r.columns i h))
    (λ i j hi hj e.
    (let hu = r.columns i hi in
    let hv = r.columns j hj in
    let same = alike_left k L m δ f s (ws i) (ws j) hu hv (λ x hx. ap (λ q. f (run δ q x)) e) in
    sym (r.arrives i hi) ∙ (table_exact k L n γ g t apart).apart (ws i) (ws j) hu hv same ∙ r.arrives j hj))

-- an automaton that is as the table
pub minimal : (k n : ℕ) (c : C) (m : ℕ) (δ : ℕ → ℕ → ℕ) (f : ℕ → Bool) → Worked k n c m δ f → (s : Automaton) → s.sets ≡ k → states s ≡ m → ((q a : ℕ) → q < m → a < 2 ^ k → leads s q a ≡ δ q a) → ((q : ℕ) → q < m → accepts s q ≡ f q) → Minimal k c s
minimal k n c m δ f w s sets count e h =
    let same : Smallest k c m (leads s) (accepts s) = record {
      table = table_same k (Of c) m δ (leads s) f (accepts s) w.table e h;
      apart = collapsed_same k m δ (leads s) f (accepts s) w.table.connected w.collapsed e h;
      least = fewest k (Of c) m δ f w.ordered.0 w.table w.collapsed w.ordered.1;
      ordered = ordered_same k m δ (leads s) w.table.connected w.ordered e;
    } in
    record { sets = sets; smallest = subst (λ m. Smallest k c m (leads s) (accepts s)) (sym count) same }
