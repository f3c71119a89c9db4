-- The row claim that is made of a ring claim, as bytes, and the work words that it asks for.
use Rattle.std.specs.Prelude.{◌≡◌, ℕ, ◌+◌, ◌*◌, ◌<◌, ◌≤◌, List, ◌∷◌, length}
use Rattle.workspace.specs.Floor.{Width, floor_words}
use Rattle.row_claims.specs.Reading.{further_sets}
use Rattle.row_claims.specs.Bytes.{row_bytes}
use Rattle.row_judge.specs.Made.{bytes_of}
use Rattle.row_judge.specs.declared.made.Rows.TheVariants.{Without}
use Rattle.ring_claims.specs.Meaning.{RingClaim}
use Rattle.ring_claims.specs.Reading.{in_ring}
use Rattle.ring_claims.specs.Bytes.{SaysRing, IsRingClaim}
use Rattle.ring_judge.specs.declared.made.Unmade.{Unmade}
use Rattle.ring_judge.specs.declared.made.Unmade.TheVariants.{NoRingClaim, TooManySets, TooLong}

abbrev pub as_row : ℕ → RingClaim → List ℕ
as_row k c = k ∷ row_bytes (in_ring c)

-- the bytes t are the row claim of the ring claim that the bytes s say, and there is a set left for the row
pub record Made (s : List ℕ) (k : ℕ) (c : RingClaim) (t : List ℕ) : Type 0 where
  pub says : SaysRing s k c
  pub few_sets : k ≤ 11
  pub row : t ≡ as_row k c
  pub few_bytes : length t ≤ 1024

-- the bytes s say ring claim c about k sets, and what is made of its row claim are claims for the call: the longer of the two is that for the rings of which it does not hold
pub record Asked (s : List ℕ) (k : ℕ) (c : RingClaim) : Type 0 where
  pub says : SaysRing s k c
  pub few_sets : further_sets k ≤ 12
  pub few_bytes : length (bytes_of Without k (in_ring c)) ≤ 1024

abbrev pub IsAsked : List ℕ → Type 0
IsAsked s = (k : ℕ) × (c : RingClaim) × Asked s k c

-- why no claim about sets is made: the bytes are no ring claim; the claim would be about more than 12 sets; if not, it would take more than 1,024 bytes
abbrev pub NotMade : List ℕ → Unmade → Type 0
NotMade s NoRingClaim = IsRingClaim s → ⊥
NotMade s TooManySets = (k : ℕ) × (c : RingClaim) × SaysRing s k c × (12 < further_sets k)
NotMade s TooLong = (k : ℕ) × (c : RingClaim) × SaysRing s k c × (further_sets k ≤ 12) × (1024 < length (bytes_of Without k (in_ring c)))

-- f work words are asked for: what the call asks for on the longer of the two claims about sets, and three words for each class; none where no such claim is made
pub record RingFloor (s : List ℕ) (n f : ℕ) : Type 0 where
  pub of_asked : (k : ℕ) (c : RingClaim) → Asked s k c → (v : ℕ) × Width (bytes_of Without k (in_ring c)) v × (f ≡ floor_words v (bytes_of Without k (in_ring c)) n + 3 * n)
  pub of_none : (IsAsked s → ⊥) → f ≡ 0
