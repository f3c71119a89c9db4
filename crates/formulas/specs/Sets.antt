-- Finite sets of places, each by whether it has place 0, place 1 and so on: sets made of two, the two ends of a set, and how many places it has.
use Rattle.std.specs.Prelude.{ℕ, suc, ◌+◌, Bool, true, false, cond, ◌||◌, List, [], ◌∷◌}

-- each place by what the two sets say of it
abbrev pub mix : (Bool → Bool → Bool) → List Bool → List Bool → List Bool
mix f [] [] = []
mix f [] (b ∷ w) = f false b ∷ mix f [] w
mix f (a ∷ u) [] = f a false ∷ mix f u []
mix f (a ∷ u) (b ∷ w) = f a b ∷ mix f u w

-- whether the set has a place
abbrev pub any : List Bool → Bool
any [] = false
any (b ∷ u) = b || any u

-- the lowest place of a set, 0 of one without places
abbrev pub lowest : List Bool → ℕ
lowest [] = 0
lowest (true ∷ u) = 0
lowest (false ∷ u) = cond (any u) (suc (lowest u)) 0

-- the highest place of a set, 0 of one without places
abbrev pub highest : List Bool → ℕ
highest [] = 0
highest (b ∷ u) = cond (any u) (suc (highest u)) 0

-- how many places a set has
abbrev pub how_many : List Bool → ℕ
how_many [] = 0
how_many (b ∷ u) = cond b 1 0 + how_many u
