-- An answer on a ring claim as three numbers, for callers in other languages.
use Rattle.std.specs.Prelude.{◌≡◌, List, ℕ}
use Rattle.ring_judge.specs.Says.{RingJudgedPost}
use Rattle.ring_judge.specs.declared.ring_judged.RingJudged.{RingJudged}
use Rattle.ring_judge.specs.declared.ring_judged.RingJudged.TheVariants.{Always, Never, Both, NoRingClaim, TooLong, TooManySets, Many, OutFull, Few}

abbrev pub tag : RingJudged → ℕ
tag Always = 0
tag Never = 1
tag (Both a b) = 2
tag NoRingClaim = 3
tag Many = 4
tag (OutFull a b) = 5
tag Few = 6
tag TooLong = 7
tag TooManySets = 8

-- the two lengths, or 0 where the answer has none
abbrev pub first : RingJudged → ℕ
first Always = 0
first Never = 0
first (Both a b) = a
first NoRingClaim = 0
first Many = 0
first (OutFull a b) = a
first Few = 0
first TooLong = 0
first TooManySets = 0

abbrev pub second : RingJudged → ℕ
second Always = 0
second Never = 0
second (Both a b) = b
second NoRingClaim = 0
second Many = 0
second (OutFull a b) = b
second Few = 0
second TooLong = 0
second TooManySets = 0

-- the three numbers are an answer that keeps the call's promise
abbrev pub Exported : List ℕ → ℕ → List ℕ → List ℕ → ℕ → ℕ → ℕ → ℕ → Type 0
Exported s n o o' w t a b = (r : RingJudged) × RingJudgedPost s n o o' w r × (t ≡ tag r) × (a ≡ first r) × (b ≡ second r)
