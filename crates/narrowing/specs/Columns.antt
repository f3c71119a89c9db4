-- A column of k sets, and the column of some of them alone: the bits of those sets, moved together
-- in their order.
use Rattle.std.specs.Prelude.{ℕ, zero, suc, ◌+◌, ◌*◌, ◌/◌, ◌%◌, Bool, cond, [], ◌∷◌}
use Rattle.words.specs.Words.{Word}

-- which sets are chosen, from set 1 on
abbrev pub tail : (ℕ → Bool) → ℕ → Bool
tail s x = s (suc x)

-- how many of the first k sets are chosen
abbrev pub size : ℕ → (ℕ → Bool) → ℕ
size zero s = 0
size (suc k) s = cond (s 0) (suc (size k (tail s))) (size k (tail s))

-- the narrow column of a column
abbrev pub extract : ℕ → (ℕ → Bool) → ℕ → ℕ
extract zero s a = 0
extract (suc k) s a = cond (s 0) (2 * extract k (tail s) (a / 2) + a % 2) (extract k (tail s) (a / 2))

-- the least column that has a narrow column: no other set has the place
abbrev pub deposit : ℕ → (ℕ → Bool) → ℕ → ℕ
deposit zero s j = 0
deposit (suc k) s j = cond (s 0) (2 * deposit k (tail s) (j / 2) + j % 2) (2 * deposit k (tail s) j)

-- column by column
abbrev pub each : (ℕ → ℕ) → Word → Word
each f [] = []
each f (a ∷ w) = f a ∷ each f w
