-- A table over narrow columns stands for one over full columns: a full column leads where its
-- narrow one does.
use Rattle.std.specs.Prelude.{◌≡◌, ℕ, ◌^◌, ◌<◌, Bool}
use Rattle.narrowing.specs.Columns.{extract}

-- the table over the columns of k sets for which a table over those of the sets s stands
abbrev pub wide : ℕ → (ℕ → Bool) → (ℕ → ℕ → ℕ) → ℕ → ℕ → ℕ
wide k s t q a = t q (extract k s a)

-- col gives each column of k sets its column of v sets, and each of these is that of some full one
pub record Narrow (k v : ℕ) (col rep : ℕ → ℕ) : Type 0 where
  pub below : (a : ℕ) → a < 2 ^ k → col a < 2 ^ v
  pub full : (j : ℕ) → j < 2 ^ v → rep j < 2 ^ k
  pub onto : (j : ℕ) → j < 2 ^ v → col (rep j) ≡ j

-- a step goes by the narrow column alone
abbrev pub Sees : {S : Type 0} → ℕ → (ℕ → ℕ) → (S → ℕ → S) → (S → ℕ → S) → Type 0
Sees {S} k col step small = (s : S) (a : ℕ) → a < 2 ^ k → step s a ≡ small s (col a)
