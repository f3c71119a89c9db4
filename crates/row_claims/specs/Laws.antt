-- What is proved of all row claims.
use Rattle.std.specs.Prelude.{◌≡◌, ℕ, suc, ◌≤◌, ◌↔◌, ◌⊎◌, T, List, [], length}
use Rattle.words.specs.Words.{Word, sets, Columns}
use Rattle.kinds.specs.Relations.{Only}
use Rattle.kinds.specs.declared.atom.Atom.TheVariants.{Related}
use Rattle.kinds.specs.declared.relation.Relation.TheVariants.{Single}
use Rattle.claims.specs.Claims.{Of}
use Rattle.claims.specs.Rows.{ok}
use Rattle.rows.specs.RowClaims.{marked, Tells}
use Rattle.row_claims.specs.Meaning.{RowClaim, atom, last, and1, OfRow}
use Rattle.row_claims.specs.Reading.{row_ok, further, further_sets, row_with, row_without}
use Rattle.row_claims.specs.Bytes.{SaysRow}

-- a row claim about k sets holds of a word exactly if the claim with a further set does of the word with that set added at every column; the empty word, the empty row, is one of them
abbrev pub RowSays : Type 0
RowSays = (k : ℕ) (c : RowClaim) (w : Word) → 1 ≤ k → T (row_ok k c) → Columns k w → OfRow c w ↔ Of (further k c) (marked k w)

-- the further claim is about so many sets, at most 12 for at most 11
abbrev pub FurtherSets : Type 0
FurtherSets = (k : ℕ) (c : RowClaim) → 1 ≤ k → T (row_ok k c) → T (ok (further_sets k) (further k c)) × T (ok (further_sets k) (row_with k c)) × T (ok (further_sets k) (row_without k c))

-- what the two claims say of sets, of words and of rows: which sets, which row, that there is none, which is first
pub record RowTold (k : ℕ) (c : RowClaim) : Type 0 where
  pub with : Tells k (row_with k c) (OfRow c)
  pub without : Tells k (row_without k c) (λ w. OfRow c w → ⊥)

abbrev pub RowTells : Type 0
RowTells = (k : ℕ) (c : RowClaim) → 1 ≤ k → T (row_ok k c) → RowTold k c

-- it can be told of every row claim and every row whether it holds
abbrev pub RowDecided : Type 0
RowDecided = (k : ℕ) (c : RowClaim) (w : Word) → 1 ≤ k → T (row_ok k c) → Columns k w → OfRow c w ⊎ (OfRow c w → ⊥)

-- last x holds of the empty row; with single x it says that the row has a last place, and that x has it alone
abbrev pub LastPlace : Type 0
LastPlace = (x : ℕ) → OfRow (last x) [] × ((w : Word) → OfRow (and1 (atom (Related (Single x))) (last x)) w ↔ ((i : ℕ) × (suc i ≡ length w) × Only (sets w) x i))

-- bytes say at most one row claim
abbrev pub OneRowClaim : Type 0
OneRowClaim = (s : List ℕ) (k l : ℕ) (c d : RowClaim) → SaysRow s k c → SaysRow s l d → (k ≡ l) × (c ≡ d)
