-- Claims about rows, and when they hold. A row has ends: it has exactly as many places as its word has columns, and no set of it has a place behind them.
use Rattle.std.specs.Prelude.{◌≡◌, ℕ, suc, ◌<◌, ◌↔◌, Bool, true, List, length}
use Rattle.words.specs.Words.{Sets, Word, sets}
use Rattle.kinds.specs.declared.atom.Atom.{Atom}
use Rattle.claims.specs.Claims as claims

-- sets are given by their numbers; atoms are the claims without parts, of whichever kind
pub data RowClaim : Type 0 where
  atom : Atom → RowClaim
  last : ℕ → RowClaim
  not1 : RowClaim → RowClaim
  and1 : RowClaim → RowClaim → RowClaim
  some : ℕ → RowClaim → RowClaim

-- the set has no place behind the first n
abbrev pub Inside : ℕ → List Bool → Type 0
Inside n u = (i : ℕ) → claims.has u i ≡ true → i < n

-- Of a row of n places. An atom: as of all places. last x: the places of x are exactly those that are the row's last, so none if the row is empty.
-- some x c: there is a set without places behind the row that, taken for x, makes c hold.
abbrev pub HoldsRow : RowClaim → ℕ → Sets → Type 0
HoldsRow (atom a) n v = claims.Holds (claims.atom a) v
HoldsRow (last x) n v = (i : ℕ) → (v x i ≡ true) ↔ (suc i ≡ n)
HoldsRow (not1 c) n v = HoldsRow c n v → ⊥
HoldsRow (and1 c d) n v = HoldsRow c n v × HoldsRow d n v
HoldsRow (some x c) n v = (u : List Bool) × Inside n u × HoldsRow c n (claims.put v x u)

-- of the row that a word is, a place for each column
abbrev pub OfRow : RowClaim → Word → Type 0
OfRow c w = HoldsRow c (length w) (sets w)
