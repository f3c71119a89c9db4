-- The choices that come before one in the order of words, and how they are listed.
use Rattle.std.specs.Prelude.{◌≡◌, ◌≢◌, ℕ, zero, suc, ◌+◌, ◌-◌, Bool, Option, Some, None, List, [], ◌∷◌, ◌++◌, All, AllPairs, Contains, map, filter}
use Rattle.std.specs.Bool.{Decides}
use Rattle.words.specs.Order.{Less}
use Rattle.strengthening.specs.Choices.{Choice}
use Rattle.strengthen.specs.declared.search.Front.{Front}

-- before the end, if there is one
abbrev pub Before : Option (List ℕ) → List ℕ → Type 0
Before None js = Unit {0}
Before (Some e) js = Less js e

-- a choice of n things, but not the empty one, that comes before the end
pub record IsBefore (n : ℕ) (e : Option (List ℕ)) (js : List ℕ) : Type 0 where
  pub choice : Choice n js
  pub some : js ≢ []
  pub before : Before e js

-- All of them and no others, in the order of words: so none stands twice.
pub record AreBefore (n : ℕ) (e : Option (List ℕ)) (cs : List (List ℕ)) : Type 0 where
  pub sound : All (IsBefore n e) cs
  pub complete : (js : List ℕ) → IsBefore n e js → Contains cs js
  pub rising : AllPairs Less cs

-- those of m numbers that rise from a on, out of k numbers, in their order
abbrev pub words_from : ℕ → ℕ → ℕ → List (List ℕ)
words_from zero k a = [] ∷ []
words_from (suc m) zero a = []
words_from (suc m) (suc k) a = map (λ js. a ∷ js) (words_from m k (a + 1)) ++ words_from (suc m) k (a + 1)

-- each of them behind the numbers that they begin with
abbrev pub behind : List ℕ → List (List ℕ) → List (List ℕ)
behind is ws = map (λ js. is ++ js) ws

-- those of 1 to m numbers
abbrev pub words_to : ℕ → ℕ → List (List ℕ)
words_to n zero = []
words_to n (suc m) = words_to n m ++ words_from (suc m) n 0

-- those that begin as f says, and go on so
abbrev pub words_of : ℕ → Front → List (List ℕ)
words_of n f = behind f.choice.now (words_from f.count (n - f.from) f.from)

-- a test tells of each word whether it comes before the end
abbrev pub Tells : Option (List ℕ) → (List ℕ → Bool) → Type 0
Tells e p = (js : List ℕ) → Decides (p js) (Before e js)

-- those of the words that come before the end are pushed: by any such test
abbrev pub Adds : Option (List ℕ) → List (List ℕ) → List (List ℕ) → List (List ℕ) → Type 0
Adds e ws old new = (p : List ℕ → Bool) → Tells e p → new ≡ old ++ filter p ws
