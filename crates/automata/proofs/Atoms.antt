-- Claims without parts, by their form alone: a right machine with few states. So each is regular, and
-- the table that a search of such a machine's states finds says the claim.
use Rattle.std.proofs.Common.{◌≡◌, ℕ, ◌<◌, ◌≤◌, Bool, true, false, ◌↔◌, [], ◌∷◌, refl, ap, ◌∙◌, sym, arith}
use mathlib.Core.Bool.{false≢true}
use Rattle.words.specs.Languages.{Lang, SameLeft}
use Rattle.words.specs.Runs.{run}
use Rattle.words.specs.Words.{Word}
use Rattle.kinds.specs.Machines.{Machine, Right}
use Rattle.kinds.specs.Meaning.{OfAtom}
use Rattle.kinds.specs.declared.atom.Atom.{Atom}
use Rattle.kinds.proofs.Forms.{form}
use Rattle.claims.specs.Claims.{Of, atom}
use Rattle.claims.specs.Sizes.{Fits}
use Rattle.automata.specs.Joined.{Joined, Written}
use Rattle.automata.specs.Search.{Explored, TooMany}
use Rattle.automata.specs.Tables.{Collapsed, Exact, Table}
use Rattle.automata.specs.Worked.{Worked}
use Rattle.automata.proofs.Counting.{pigeon}
use Rattle.automata.proofs.Explored.{explored_table}
use Rattle.automata.proofs.Joined.{written_collapsed, written_ordered, written_table}
use Rattle.automata.proofs.Regular.{Regular}
use Rattle.automata.proofs.Tables.{run-++, exact_many, exact_top, table_exact}

-- a language that has a right machine
module _ {S : Type 0} (number : S → ℕ) (m : Machine S) (L : Lang) (told : (p q : S) → number p ≡ number q → p ≡ q) (right : Right number m L) where
  -- the state to which a word leads
  abbrev to : Word → S
  to w = run m.step m.start w

  from_below : (w : Word) (q : S) → number q < m.size → number (run m.step q w) < m.size
  from_below [] q h = h
  from_below (a ∷ w) q h = from_below w (m.step q a) (right.stays q a h)

  to_below : (w : Word) → number (to w) < m.size
  to_below w = from_below w m.start right.begins

  -- no more than 16 states are reached
  pub few_reached : (k : ℕ) → TooMany k m.step m.start 16 → ⊥
  few_reached k x =
      let e = x.exploring in
      let h = pigeon x.found m.size (λ j. number (x.at j)) (λ j l. rw (← e.comes j l) (to_below (x.ws j))) (λ p q hp hq i. e.differ p q hp hq (told (x.at p) (x.at q) i)) in
      omega (arith, x.many, right.few)

  machine_told : (w : Word) → Dec (L w)
  machine_told w = elim (m.ends (to w)) as (λ b. ((b ≡ true) ↔ L w) → Dec (L w)) [ true ↦ λ s. yes (s.0 refl) | false ↦ λ s. no (λ l. false≢true (s.1 l)) ] (right.says w)

  pub machine_regular : (k : ℕ) → Regular k L
  machine_regular k = record {
    N = m.size;
    code = λ w. number (to w);
    coded = record {
      below = λ w h. to_below w;
      on = λ u v c hu hv hc e. ap number (run-++ m.step m.start u (c ∷ []) ∙ ap (λ q. m.step q c) (told (to u) (to v) e) ∙ sym (run-++ m.step m.start v (c ∷ [])));
    };
    same = λ u v hu hv e l. (right.says v).0 (ap m.ends (sym (told (to u) (to v) e)) ∙ (right.says u).1 l);
    told = λ w h. machine_told w;
  }

  machine_explored : (k n : ℕ) (at : ℕ → S) (δ : ℕ → ℕ → ℕ) → Explored k m.step m.start n at δ → Table k L n δ (λ q. m.ends (at q))
  machine_explored k n at δ e = explored_table k m.step m.start n at δ e L m.ends (λ w h. right.says w)

-- Every claim without parts is regular.
pub atom_regular : (k : ℕ) (a : Atom) → Regular k (Of (atom a))
atom_regular k a = let f = form a in machine_regular f.number f.machine (OfAtom a) f.told f.right k

-- The classes of a claim without parts are those of the table of its machine's states, searched and
-- joined: g is the acceptance that the joining saw.
module _ {S : Type 0} (number : S → ℕ) (m : Machine S) (a : Atom) (told : (p q : S) → number p ≡ number q → p ≡ q) (right : Right number m (OfAtom a)) (k n count : ℕ) (at : ℕ → S) (δ : ℕ → ℕ → ℕ) (g : ℕ → Bool) (e : Explored k m.step m.start count at δ) (same : (q : ℕ) → q < count → g q ≡ m.ends (at q)) (cls rep : ℕ → ℕ) (o : ℕ) (j : Joined k count δ g cls rep o) where
  module _ (δ' : ℕ → ℕ → ℕ) (f' : ℕ → Bool) (w : Written k δ g cls rep o δ' f') where
    atom_written : Table k (Of (atom a)) o δ' f'
    atom_written = written_table k count δ (λ q. m.ends (at q)) g cls rep o δ' f' e.connected j same w (Of (atom a)) (machine_explored number m (OfAtom a) told right k count at δ e)

    atom_collapsed : Collapsed k o δ' f'
    atom_collapsed = written_collapsed k count δ (λ q. m.ends (at q)) g cls rep o δ' f' e.connected j same w

    atom_exact : Exact k (SameLeft k (Of (atom a))) o δ'
    atom_exact = table_exact k (Of (atom a)) o δ' f' atom_written atom_collapsed

    pub worked_atom : o ≤ n → Worked k n (atom a) o δ' f'
    worked_atom h = record { table = atom_written; ordered = written_ordered k count δ (λ q. m.ends (at q)) g cls rep o δ' f' e.connected j same w e.ordered; collapsed = atom_collapsed; fits = exact_top k (SameLeft k (Of (atom a))) o n δ' atom_exact h }

  pub many_atom : n < o → Fits k n (atom a) → ⊥
  many_atom h t =
      exact_many k (SameLeft k (Of (atom a))) o n (λ i b. cls (δ (rep i) b)) (atom_exact (λ i b. cls (δ (rep i) b)) (λ i. g (rep i)) record { steps = λ i b _ _. refl; accepts = λ i _. refl }) h t
