-- Going through the choices in their order: by how many numbers they have, and of one many by the first number, the second and so on. K is what is asked of a choice.
use Rattle.std.specs.Prelude.{◌≡◌, ℕ, ◌+◌, ◌<◌, ◌≤◌, List, [], ◌∷◌, ◌++◌, length}
use Rattle.words.specs.Order.{Less}
use Rattle.strengthening.specs.Choices.{Rising}

-- a choice that begins with is, and goes on with m numbers that rise from a on, below n
abbrev pub Extends : ℕ → ℕ → ℕ → List ℕ → List ℕ → Type 0
Extends a n m is js = (ks : List ℕ) × (js ≡ is ++ ks) × Rising a n ks × (length ks ≡ m)

-- K of none of them
abbrev pub NoneExtends : (List ℕ → Type 0) → ℕ → ℕ → ℕ → List ℕ → Type 0
NoneExtends K a n m is = (js : List ℕ) → Extends a n m is js → K js → ⊥

-- js is one of them, and K of none before it
pub record Reaches (K : List ℕ → Type 0) (a n m : ℕ) (is js : List ℕ) : Type 0 where
  pub extends : Extends a n m is js
  pub first : (ks : List ℕ) → Extends a n m is ks → Less ks js → K ks → ⊥

-- K of none of them whose first number behind is is below c
abbrev pub NoneTo : (List ℕ → Type 0) → ℕ → ℕ → ℕ → List ℕ → ℕ → Type 0
NoneTo K a n m is c = (d : ℕ) → a ≤ d → d < c → NoneExtends K (d + 1) n m (is ++ (d ∷ []))

-- K of no choice of fewer than m numbers
abbrev pub NoneBelow : (List ℕ → Type 0) → ℕ → ℕ → Type 0
NoneBelow K n m = (js : List ℕ) → Rising 0 n js → length js < m → K js → ⊥
