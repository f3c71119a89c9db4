-- Words: for each place from 0 on one column, a number whose bits say which sets have the place.
use Rattle.std.specs.Prelude.{ℕ, zero, suc, ◌/◌, ◌%◌, ◌^◌, ◌<◌, Bool, false, List, [], ◌∷◌, ◌==◌}

-- a family of sets of places: whether set x has place i
abbrev pub Sets : Type 0
Sets = ℕ → ℕ → Bool

abbrev pub Word : Type 0
Word = List ℕ

-- bit x of a column
abbrev pub bit : ℕ → ℕ → Bool
bit zero c = c % 2 == 1
bit (suc x) c = bit x (c / 2)

-- the sets of a word; behind its end no set has any place
abbrev pub sets : Word → Sets
sets [] x i = false
sets (c ∷ cs) x zero = bit x c
sets (c ∷ cs) x (suc i) = sets cs x i

-- every column speaks of k sets only
abbrev pub Columns : ℕ → Word → Type 0
Columns k [] = Unit {0}
Columns k (c ∷ cs) = (c < 2 ^ k) × Columns k cs
