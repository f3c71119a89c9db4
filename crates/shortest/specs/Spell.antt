-- The first word of a class, read off two lists: prev, the class to which it leads without its last
-- column, and via, that column.
use Rattle.std.specs.Prelude.{ℕ, zero, suc, ◌<◌, ◌≤◌, List, [], ◌∷◌, ◌++◌, slice_index}
use Rattle.words.specs.Words.{Word}

-- the last n columns of the word of class j, or all of them where it has no more
unfoldable pub last_columns : List ℕ → List ℕ → ℕ → ℕ → Word
last_columns prev via zero j = []
last_columns prev via (suc n) zero = []
last_columns prev via (suc n) (suc j) = last_columns prev via n (slice_index prev (suc j)) ++ (slice_index via (suc j) ∷ [])

-- the word of class j: class 0 has the empty word, and numbers fall on the way back, so j columns
-- are all
unfoldable pub word : List ℕ → List ℕ → ℕ → Word
word prev via j = last_columns prev via j j

-- for each class up to j a lower one is noted
abbrev pub Falls : List ℕ → ℕ → Type 0
Falls prev j = (i : ℕ) → 0 < i → i ≤ j → slice_index prev i < i
