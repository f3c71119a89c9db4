-- Sets of classes as rows of bits, 32 classes to a word: class q is bit q % 32 of word q / 32.
use Rattle.std.specs.Prelude.{◌≡◌, ℕ, ◌+◌, ◌*◌, ◌/◌, ◌%◌, ◌<◌, Bool, true, ◌⊎◌, ◌↔◌, List, take, drop, slice_index}
use Rattle.words.specs.Words.{bit}

-- whether a row has class q; behind its words it has none
unfoldable pub has : List ℕ → ℕ → Bool
has row q = bit (q % 32) (slice_index row (q / 32))

-- row i of rows of w words
unfoldable pub row_at : List ℕ → ℕ → ℕ → List ℕ
row_at sets w i = take w (drop (i * w) sets)

-- the set that row i is
abbrev pub member : List ℕ → ℕ → ℕ → ℕ → Bool
member sets w i q = has (row_at sets w i) q

-- the set `new` is the set `old` and more
abbrev pub Adds : (ℕ → Bool) → (ℕ → Bool) → (ℕ → Type 0) → Type 0
Adds old new more = (q : ℕ) → (new q ≡ true) ↔ ((old q ≡ true) ⊎ more q)

-- some bit y of a word, standing for class from + y, of which P holds
abbrev pub SomeBit : (ℕ → Type 0) → ℕ → ℕ → Type 0
SomeBit P from word = (y : ℕ) × (bit y word ≡ true) × P (from + y)

-- every bit of a word stands for a class below n
abbrev pub BitsBelow : ℕ → ℕ → ℕ → Type 0
BitsBelow n from word = (y : ℕ) → bit y word ≡ true → from + y < n

-- every class of a set is below n
abbrev pub Below : ℕ → (ℕ → Bool) → Type 0
Below n X = (q : ℕ) → X q ≡ true → q < n

-- some class of a set accepts
abbrev pub Meets : (ℕ → Bool) → (ℕ → Bool) → Type 0
Meets X accepts = (q : ℕ) × (X q ≡ true) × (accepts q ≡ true)
