-- Which columns a pattern fits, and where the transitions of a state lead a column.
use Rattle.std.specs.Prelude.{◌≡◌, ℕ, ◌/◌, ◌%◌, ◌^◌, Bool, true, not, ◌&&◌, if◌then◌else◌, List, [], ◌∷◌, length, map, filter, slice_index}
use Rattle.words.specs.Words.{bit}
use Rattle.transitions.specs.declared.pattern.Letter.{Letter}
use Rattle.transitions.specs.declared.pattern.Letter.TheVariants.{Zero, One, Any}
use Rattle.transitions.specs.declared.pattern.Transition.{Transition}

-- a letter fits a set that has the place or not, as its bit says
abbrev pub letter_fits : Letter → Bool → Bool
letter_fits Zero b = not b
letter_fits One b = b
letter_fits Any b = true

-- a pattern fits a column whose sets its letters fit, set 0 first; what a column has of further sets does not matter
abbrev pub fits : List Letter → ℕ → Bool
fits [] a = true
fits (l ∷ ls) a = letter_fits l (bit 0 a) && fits ls (a / 2)

-- a pattern with a letter for each of n sets
abbrev pub HasLetters : ℕ → Transition → Type 0
HasLetters n t = length t.pattern.items ≡ n

-- all states to which a column leads, by each transition whose pattern it fits
abbrev pub leads : List Transition → ℕ → List ℕ
leads ts a = map (λ t. t.to) (filter (λ t. fits t.pattern.items a) ts)

-- a column without the sets that a path has letters for
abbrev pub rest : List Letter → ℕ → ℕ
rest [] a = a
rest (l ∷ ls) a = rest ls (a / 2)

-- where the transitions behind a path lead a column, by the row of where the columns over the n sets that are left lead
abbrev pub added : List Letter → List ℕ → ℕ → ℕ → List ℕ
added p row n a = if fits p a then slice_index row (rest p a % 2 ^ n) ∷ [] else []
