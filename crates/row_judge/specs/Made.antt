-- The claims about sets that are made of a row claim, as bytes, and the work words that these ask for.
use Rattle.std.specs.Prelude.{◌≡◌, ℕ, ◌+◌, ◌*◌, ◌<◌, ◌≤◌, List, ◌∷◌, length}
use Rattle.claims.specs.Claims.{C, not1, and1}
use Rattle.claims.specs.Rows.{row}
use Rattle.workspace.specs.Floor.{Width, floor_words}
use Rattle.rows.specs.RowClaims.{is_row}
use Rattle.row_claims.specs.Meaning.{RowClaim}
use Rattle.row_claims.specs.Reading.{further, further_sets}
use Rattle.row_claims.specs.Bytes.{SaysRow, IsRowClaim}
use Rattle.row_judge.specs.declared.made.Rows.{Rows}
use Rattle.row_judge.specs.declared.made.Rows.TheVariants.{With, Without}
use Rattle.row_judge.specs.declared.made.Unmade.{Unmade}
use Rattle.row_judge.specs.declared.made.Unmade.TheVariants.{NoRowClaim, TooManySets, TooLong}

-- the row claim, or its opposite, where set k is the row
abbrev pub part_of : Rows → ℕ → RowClaim → C
part_of With k c = further k c
part_of Without k c = not1 (further k c)

-- the claim that tells of the rows of which a row claim about k sets holds, `row_with k c`, or of which it does not, `row_without k c`
abbrev pub claim_of : Rows → ℕ → RowClaim → C
claim_of r k c = and1 (is_row k) (part_of r k c)

abbrev pub bytes_of : Rows → ℕ → RowClaim → List ℕ
bytes_of r k c = further_sets k ∷ row (claim_of r k c)

-- the bytes s say row claim c about k sets, and what is made of it are claims for the call: the longer of the two is that for the rows of which it does not hold
pub record Asked (s : List ℕ) (k : ℕ) (c : RowClaim) : Type 0 where
  pub says : SaysRow s k c
  pub few_sets : further_sets k ≤ 12
  pub few_bytes : length (bytes_of Without k c) ≤ 1024

abbrev pub IsAsked : List ℕ → Type 0
IsAsked s = (k : ℕ) × (c : RowClaim) × Asked s k c

-- why no claim is made: the bytes are no row claim; the claim would be about more than 12 sets; if not, it would take more than 1,024 bytes
abbrev pub NotMade : List ℕ → Unmade → Type 0
NotMade s NoRowClaim = IsRowClaim s → ⊥
NotMade s TooManySets = (k : ℕ) × (c : RowClaim) × SaysRow s k c × (12 < further_sets k)
NotMade s TooLong = (k : ℕ) × (c : RowClaim) × SaysRow s k c × (further_sets k ≤ 12) × (1024 < length (bytes_of Without k c))

-- f work words are asked for: what the call asks for on the longer of the two claims, and three words for each class; none where no claim is made
pub record RowFloor (s : List ℕ) (n f : ℕ) : Type 0 where
  pub of_asked : (k : ℕ) (c : RowClaim) → Asked s k c → (v : ℕ) × Width (bytes_of Without k c) v × (f ≡ floor_words v (bytes_of Without k c) n + 3 * n)
  pub of_none : (IsAsked s → ⊥) → f ≡ 0
