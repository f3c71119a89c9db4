-- Claims about one set or two: what each says of sets, and which sets it speaks of.
use Rattle.std.specs.Prelude.{◌≡◌, ℕ, suc, ◌<◌, true}
use Rattle.words.specs.Words.{Sets}
use Rattle.kinds.specs.declared.relation.Relation.{Relation}
use Rattle.kinds.specs.declared.relation.Relation.TheVariants.{Within, Single, Next, Before}

abbrev pub first : Relation → ℕ
first (Within x y) = x
first (Single x) = x
first (Next x y) = x
first (Before x y) = x

abbrev pub second : Relation → ℕ
second (Within x y) = y
second (Single x) = x
second (Next x y) = y
second (Before x y) = y

-- place i is the one place of set x
abbrev pub Only : Sets → ℕ → ℕ → Type 0
Only v x i = (v x i ≡ true) × ((j : ℕ) → v x j ≡ true → j ≡ i)

-- within x y: every place of x is one of y; single x: x has exactly one place; next x y: x and y
-- have one place each, and y's is the one behind x's; before x y: x and y have one place each, and
-- y's is further on
abbrev pub Relates : Relation → Sets → Type 0
Relates (Within x y) v = (i : ℕ) → v x i ≡ true → v y i ≡ true
Relates (Single x) v = (i : ℕ) × Only v x i
Relates (Next x y) v = (i : ℕ) × Only v x i × Only v y (suc i)
Relates (Before x y) v = (i : ℕ) × (j : ℕ) × Only v x i × Only v y j × (i < j)
