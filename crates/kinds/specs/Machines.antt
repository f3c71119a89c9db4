-- Machines that read words column by column, and what it takes that one is right of a language.
use Rattle.std.specs.Prelude.{◌≡◌, ℕ, ◌<◌, ◌≤◌, ◌↔◌, Bool, true}
use Rattle.words.specs.Languages.{Lang}
use Rattle.words.specs.Runs.{run}
use Rattle.words.specs.Words.{Word}

-- how many states there are at most, the state where words begin, the state to which a column
-- leads, and whether a word may end in a state
pub record Machine (S : Type 0) : Type 0 where
  pub size : ℕ
  pub start : S
  pub step : S → ℕ → S
  pub ends : S → Bool

-- by the numbers of states: at most 16 are reached, and exactly the words of L may end where they
-- lead
pub record Right {S : Type 0} (number : S → ℕ) (m : Machine S) (L : Lang) : Type 0 where
  pub few : m.size ≤ 16
  pub begins : number m.start < m.size
  pub stays : (q : S) (a : ℕ) → number q < m.size → number (m.step q a) < m.size
  pub says : (w : Word) → (m.ends (run m.step m.start w) ≡ true) ↔ L w

-- a language has a right machine, whose states are told by their numbers
pub record Form (L : Lang) : Type 1 where
  pub State : Type 0
  pub number : State → ℕ
  pub machine : Machine State
  pub told : (p q : State) → number p ≡ number q → p ≡ q
  pub right : Right number machine L
