-- The names of the bits of a file, and of the sets that its claims speak of.
use Rattle.std.specs.Prelude.{ℕ, suc, cond, List, [], ◌∷◌, ◌++◌, map, codes}
use Rattle.std.specs.Str.{bytes_eq}

-- the place of the first name that is the word; of a word that is no name, how many names there are
abbrev pub number_of : List (List ℕ) → List ℕ → ℕ
number_of [] w = 0
number_of (v ∷ vs) w = cond (bytes_eq v w) 0 (suc (number_of vs w))

-- the bits of the row after have the names of the bits with `'` behind them
abbrev pub names_after : List (List ℕ) → List (List ℕ)
names_after names = map (λ n. n ++ codes "'") names

-- the bits of the row, the set of all places, the bits of the row after
abbrev pub set_names : List ℕ → List (List ℕ) → List (List ℕ)
set_names places names = names ++ places ∷ [] ++ names_after names
