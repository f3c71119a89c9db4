-- What the call on a ring claim promises.
use Rattle.std.specs.Prelude.{◌≡◌, ℕ, ◌+◌, ◌<◌, ◌↔◌, List, length, take, drop}
use Rattle.words.specs.Words.{Word, Columns}
use Rattle.rows.specs.RowClaims.{First}
use Rattle.row_judge.specs.Says.{BothFit, NeitherFits}
use Rattle.ring_claims.specs.Meaning.{RingClaim, OfRing}
use Rattle.ring_claims.specs.Reading.{in_ring}
use Rattle.ring_claims.specs.Bytes.{SaysRing, IsRingClaim}
use Rattle.ring_judge.specs.Made.{IsAsked, NotMade, RingFloor}
use Rattle.ring_judge.specs.declared.made.Unmade.TheVariants as unmade
use Rattle.ring_judge.specs.declared.ring_judged.RingJudged.{RingJudged}
use Rattle.ring_judge.specs.declared.ring_judged.RingJudged.TheVariants.{Always, Never, Both, NoRingClaim, TooLong, TooManySets, Many, OutFull, Few}

-- the first ring of which it holds and the first of which it does not, of lengths a and b
abbrev pub FirstRings : ℕ → RingClaim → ℕ → ℕ → Word → Word → Type 0
FirstRings k c a b u v = First k (OfRing c) u × First k (λ w. OfRing c w → ⊥) v × (a ≡ length u) × (b ≡ length v)

-- What an answer says of bytes s that say a ring claim, of n, and of out before and after. Rings of every length are meant; a ring stands in out as the columns of the claim's own sets.
abbrev pub RingJudgedSays : List ℕ → ℕ → List ℕ → List ℕ → RingJudged → Type 0
RingJudgedSays s n o o' Always = (k : ℕ) (c : RingClaim) → SaysRing s k c → BothFit k n (in_ring c) × ((w : Word) → Columns k w → OfRing c w) × (o' ≡ o)
RingJudgedSays s n o o' Never = (k : ℕ) (c : RingClaim) → SaysRing s k c → BothFit k n (in_ring c) × ((w : Word) → Columns k w → OfRing c w → ⊥) × (o' ≡ o)
RingJudgedSays s n o o' (Both a b) =
    (k : ℕ) (c : RingClaim) → SaysRing s k c → BothFit k n (in_ring c) × ((u : Word) × (v : Word) × FirstRings k c a b u v × (take a o' ≡ u) × (take b (drop a o') ≡ v) × (drop (a + b) o' ≡ drop (a + b) o))
RingJudgedSays s n o o' NoRingClaim = NotMade s unmade.NoRingClaim × (o' ≡ o)
RingJudgedSays s n o o' TooLong = NotMade s unmade.TooLong × (o' ≡ o)
RingJudgedSays s n o o' TooManySets = NotMade s unmade.TooManySets × (o' ≡ o)
RingJudgedSays s n o o' Many = (k : ℕ) (c : RingClaim) → SaysRing s k c → NeitherFits k n (in_ring c) × (o' ≡ o)
RingJudgedSays s n o o' (OutFull a b) = (k : ℕ) (c : RingClaim) → SaysRing s k c → BothFit k n (in_ring c) × ((u : Word) × (v : Word) × FirstRings k c a b u v × (length o < a + b)) × (o' ≡ o)
RingJudgedSays s n o o' Few = o' ≡ o

-- all answers but three are given only of ring claims of which claims for the call are made; two of these say that bytes are a ring claim of which none are made
abbrev pub OfRingClaim : List ℕ → RingJudged → Type 0
OfRingClaim s Always = IsAsked s
OfRingClaim s Never = IsAsked s
OfRingClaim s (Both a b) = IsAsked s
OfRingClaim s NoRingClaim = Unit {0}
OfRingClaim s TooLong = IsRingClaim s
OfRingClaim s TooManySets = IsRingClaim s
OfRingClaim s Many = IsAsked s
OfRingClaim s (OutFull a b) = IsAsked s
OfRingClaim s Few = IsAsked s

-- bytes s, n, out before and after, the number of work words, the answer
pub record RingJudgedPost (s : List ℕ) (n : ℕ) (o o' : List ℕ) (w : ℕ) (r : RingJudged) : Type 0 where
  pub says : RingJudgedSays s n o o' r
  pub ring : OfRingClaim s r
  pub few : (f : ℕ) × RingFloor s n f × ((w < f) ↔ (r ≡ Few))
