-- An answer as three numbers, for callers in other languages.
use Rattle.std.specs.Prelude.{◌≡◌, List, ℕ}
use Rattle.lengths.specs.Says.{JudgedPost}
use Rattle.lengths.specs.declared.judged.Judged.{Judged}
use Rattle.lengths.specs.declared.judged.Judged.TheVariants.{Always, Never, Both, NoClaim, Many, OutFull, Few}

abbrev pub tag : Judged → ℕ
tag Always = 0
tag Never = 1
tag (Both a b) = 2
tag NoClaim = 3
tag Many = 4
tag (OutFull a b) = 5
tag Few = 6

-- the two lengths, or 0 where the answer has none
abbrev pub first : Judged → ℕ
first Always = 0
first Never = 0
first (Both a b) = a
first NoClaim = 0
first Many = 0
first (OutFull a b) = a
first Few = 0

abbrev pub second : Judged → ℕ
second Always = 0
second Never = 0
second (Both a b) = b
second NoClaim = 0
second Many = 0
second (OutFull a b) = b
second Few = 0

-- the three numbers are an answer that keeps the call's promise
abbrev pub Exported : List ℕ → ℕ → List ℕ → List ℕ → ℕ → ℕ → ℕ → ℕ → Type 0
Exported s n o o' w t a b = (r : Judged) × JudgedPost s n o o' w r × (t ≡ tag r) × (a ≡ first r) × (b ≡ second r)
