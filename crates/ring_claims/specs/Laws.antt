-- What is proved of all ring claims.
use Rattle.std.specs.Prelude.{◌≡◌, ℕ, ◌≤◌, ◌↔◌, ◌⊎◌, T, List, length}
use Rattle.words.specs.Words.{Word, sets, Columns}
use Rattle.kinds.specs.Relations.{Only}
use Rattle.rows.specs.RowClaims.{Tells}
use Rattle.row_claims.specs.Meaning.{OfRow}
use Rattle.row_claims.specs.Reading.{row_ok, row_with, row_without}
use Rattle.ring_claims.specs.Meaning.{RingClaim, atom, OfRing, Turned}
use Rattle.ring_claims.specs.Reading.{ring_ok, in_ring}
use Rattle.ring_claims.specs.Bytes.{SaysRing}
use Rattle.ring_claims.specs.declared.atom.RingAtom.TheVariants.{Next}

-- a ring claim holds of a word exactly if the row claim does; the empty word, the empty ring, is one of them
abbrev pub RingSays : Type 0
RingSays = (c : RingClaim) (w : Word) → OfRing c w ↔ OfRow (in_ring c) w

-- the row claim is about the same sets
abbrev pub RingSets : Type 0
RingSets = (k : ℕ) (c : RingClaim) → T (ring_ok k c) → T (row_ok k (in_ring c))

-- the same ring turned: every ring claim holds of both words or of neither
abbrev pub SameTurned : Type 0
SameTurned = (c : RingClaim) (u w : Word) → Turned u w → OfRing c u ↔ OfRing c w

-- what the two claims made of the row claim say of sets, of words and of rings: which sets, which ring, that there is none, which is first
pub record RingTold (k : ℕ) (c : RingClaim) : Type 0 where
  pub with : Tells k (row_with k (in_ring c)) (OfRing c)
  pub without : Tells k (row_without k (in_ring c)) (λ w. OfRing c w → ⊥)

abbrev pub RingTells : Type 0
RingTells = (k : ℕ) (c : RingClaim) → 1 ≤ k → T (ring_ok k c) → RingTold k c

-- it can be told of every ring claim and every ring whether it holds
abbrev pub RingDecided : Type 0
RingDecided = (k : ℕ) (c : RingClaim) (w : Word) → 1 ≤ k → T (ring_ok k c) → Columns k w → OfRing c w ⊎ (OfRing c w → ⊥)

-- a set is next to itself exactly if it has the one place of a ring of one
abbrev pub NextToItself : Type 0
NextToItself = (x : ℕ) (w : Word) → OfRing (atom (Next x x)) w ↔ ((length w ≡ 1) × Only (sets w) x 0)

-- bytes say at most one ring claim
abbrev pub OneRingClaim : Type 0
OneRingClaim = (s : List ℕ) (k l : ℕ) (c d : RingClaim) → SaysRing s k c → SaysRing s l d → (k ≡ l) × (c ≡ d)
