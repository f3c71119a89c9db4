-- Parts cut where they are marked.
use Rattle.std.specs.Prelude.{◌≡◌, ℕ, ◌-◌, ◌<◌, ◌≤◌, ◌≢◌, List, slice_index, ◌⊎◌, ◌↔◌}
use Rattle.splitting.specs.Places.{Arranged, Marked}

-- the places from `from` to `to`, cut at `at`: one of the two pieces is `new`, the other is left
pub record Halved (from at to new_from new_to old_from old_to : ℕ) : Type 0 where
  pub pieces : ((new_from ≡ from) × (new_to ≡ at) × (old_from ≡ at) × (old_to ≡ to)) ⊎ ((new_from ≡ at) × (new_to ≡ to) × (old_from ≡ from) × (old_to ≡ at))
  pub smaller : new_to - new_from ≤ old_to - old_from

-- some parts are cut, and their classes not marked any more: what told two classes apart, their
-- parts and marks, tells them apart now, and nothing else does.
-- A class keeps its part or gets a new one.
pub record Recut (m n : ℕ) (part : ℕ → ℕ) (M : ℕ → Type 0) (part' : ℕ → ℕ) (M' : ℕ → Type 0) : Type 0 where
  pub same : (p q : ℕ) → p < m → q < m → part p ≡ part q → M p ↔ M q → (part' p ≡ part' q) × (M' p ↔ M' q)
  pub told : (p q : ℕ) → p < m → q < m → part' p ≡ part' q → M' p ↔ M' q → (part p ≡ part q) × (M p ↔ M q)
  pub kept : (p : ℕ) → p < m → (part' p ≡ part p) ⊎ (n ≤ part' p)

-- one part c, or all parts that were touched, are cut
pub record Cutting (m n : ℕ) (order place part begin end cut : List ℕ) (n' : ℕ) (part' begin' end' cut' : List ℕ) : Type 0 where
  pub more : n ≤ n'
  pub arranged : Arranged m n' order place part' begin' end' cut'
  pub recut : Recut m n (λ q. slice_index part q) (Marked place part cut) (λ q. slice_index part' q) (Marked place part' cut')

-- part c is cut, and nothing is marked in its pieces
pub record CutPart (m n c : ℕ) (order place part begin end cut : List ℕ) (n' : ℕ) (part' begin' end' cut' : List ℕ) : Type 0 where
  pub cutting : Cutting m n order place part begin end cut n' part' begin' end' cut'
  pub others : (d : ℕ) → d < n → d ≢ c → (slice_index begin' d ≡ slice_index begin d) × (slice_index cut' d ≡ slice_index cut d)
  pub clean : (d : ℕ) → d < n' → (d ≡ c) ⊎ (n ≤ d) → slice_index cut' d ≡ slice_index begin' d
