-- What the call on a row claim promises.
use Rattle.std.specs.Prelude.{◌≡◌, ℕ, ◌+◌, ◌<◌, ◌↔◌, List, length, take, drop}
use Rattle.words.specs.Words.{Word, Columns}
use Rattle.claims.specs.Sizes.{Fits}
use Rattle.rows.specs.RowClaims.{First}
use Rattle.row_claims.specs.Meaning.{RowClaim, OfRow}
use Rattle.row_claims.specs.Reading.{further_sets, row_with, row_without}
use Rattle.row_claims.specs.Bytes.{SaysRow, IsRowClaim}
use Rattle.row_judge.specs.Made.{IsAsked, NotMade, RowFloor}
use Rattle.row_judge.specs.declared.made.Unmade.TheVariants as unmade
use Rattle.row_judge.specs.declared.row_judged.RowJudged.{RowJudged}
use Rattle.row_judge.specs.declared.row_judged.RowJudged.TheVariants.{Always, Never, Both, NoRowClaim, TooLong, TooManySets, Many, OutFull, Few}

-- both claims that are made of a row claim fit into n, or neither does
abbrev pub BothFit : ℕ → ℕ → RowClaim → Type 0
BothFit k n c = Fits (further_sets k) n (row_with k c) × Fits (further_sets k) n (row_without k c)

abbrev pub NeitherFits : ℕ → ℕ → RowClaim → Type 0
NeitherFits k n c = (Fits (further_sets k) n (row_with k c) → ⊥) × (Fits (further_sets k) n (row_without k c) → ⊥)

-- the first row of which it holds and the first of which it does not, of lengths a and b
abbrev pub FirstRows : ℕ → RowClaim → ℕ → ℕ → Word → Word → Type 0
FirstRows k c a b u v = First k (OfRow c) u × First k (λ w. OfRow c w → ⊥) v × (a ≡ length u) × (b ≡ length v)

-- What an answer says of bytes s that say a row claim, of n, and of out before and after. Rows of every length are meant; a row stands in out as the columns of the claim's own sets.
abbrev pub RowJudgedSays : List ℕ → ℕ → List ℕ → List ℕ → RowJudged → Type 0
RowJudgedSays s n o o' Always = (k : ℕ) (c : RowClaim) → SaysRow s k c → BothFit k n c × ((w : Word) → Columns k w → OfRow c w) × (o' ≡ o)
RowJudgedSays s n o o' Never = (k : ℕ) (c : RowClaim) → SaysRow s k c → BothFit k n c × ((w : Word) → Columns k w → OfRow c w → ⊥) × (o' ≡ o)
RowJudgedSays s n o o' (Both a b) = (k : ℕ) (c : RowClaim) → SaysRow s k c → BothFit k n c × ((u : Word) × (v : Word) × FirstRows k c a b u v × (take a o' ≡ u) × (take b (drop a o') ≡ v) × (drop (a + b) o' ≡ drop (a + b) o))
RowJudgedSays s n o o' NoRowClaim = NotMade s unmade.NoRowClaim × (o' ≡ o)
RowJudgedSays s n o o' TooLong = NotMade s unmade.TooLong × (o' ≡ o)
RowJudgedSays s n o o' TooManySets = NotMade s unmade.TooManySets × (o' ≡ o)
RowJudgedSays s n o o' Many = (k : ℕ) (c : RowClaim) → SaysRow s k c → NeitherFits k n c × (o' ≡ o)
RowJudgedSays s n o o' (OutFull a b) = (k : ℕ) (c : RowClaim) → SaysRow s k c → BothFit k n c × ((u : Word) × (v : Word) × FirstRows k c a b u v × (length o < a + b)) × (o' ≡ o)
RowJudgedSays s n o o' Few = o' ≡ o

-- all answers but three are given only of row claims of which claims for the call are made; two of these say that bytes are a row claim of which none are made
abbrev pub OfRowClaim : List ℕ → RowJudged → Type 0
OfRowClaim s Always = IsAsked s
OfRowClaim s Never = IsAsked s
OfRowClaim s (Both a b) = IsAsked s
OfRowClaim s NoRowClaim = Unit {0}
OfRowClaim s TooLong = IsRowClaim s
OfRowClaim s TooManySets = IsRowClaim s
OfRowClaim s Many = IsAsked s
OfRowClaim s (OutFull a b) = IsAsked s
OfRowClaim s Few = IsAsked s

-- bytes s, n, out before and after, the number of work words, the answer
pub record RowJudgedPost (s : List ℕ) (n : ℕ) (o o' : List ℕ) (w : ℕ) (r : RowJudged) : Type 0 where
  pub says : RowJudgedSays s n o o' r
  pub row : OfRowClaim s r
  pub few : (f : ℕ) × RowFloor s n f × ((w < f) ↔ (r ≡ Few))
