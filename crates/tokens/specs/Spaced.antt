-- The text of words: each `;` ends its line, and a blank stands between two words where it keeps them apart or makes them easier to read, as in `|X| mod 3 = 1 | p in X`.
use Rattle.std.specs.Prelude.{ℕ, ◌≡◌, ◌==◌, Bool, true, false, not, ◌||◌, ◌&&◌, if◌then◌else◌, List, [], ◌∷◌, ◌++◌, length, Some}
use Rattle.tokens.specs.Scan.{front}
use Rattle.tokens.specs.declared.kind.Kind.{Kind}
use Rattle.tokens.specs.declared.kind.Kind.TheVariants as kind
use Rattle.tokens.specs.Words.{Word, word}

-- `)`, `}`, `,`, `:` and `;` stand close behind what is before them
abbrev pub clings : ℕ → Bool
clings b = (b == 41) || ((b == 125) || ((b == 44) || ((b == 58) || (b == 59))))

-- whether a blank stands between a word of a kind and one that begins with this byte: behind `(`, `{` and the end of a line there is none, behind `~` only before `=`, and none between a predicate and its arguments
abbrev pub is_apart : Kind → ℕ → Bool
is_apart kind.Open b = false
is_apart kind.OpenSet b = false
is_apart kind.Semicolon b = false
is_apart kind.Not b = b == 61
is_apart kind.Name b = not (clings b || (b == 40))
is_apart kind.Empty b = not (clings b || (b == 40))
is_apart _ b = not (clings b)

-- the sign `|`, which stands between formulas, or before and behind a set whose places are counted
abbrev pub is_bar : Kind → Bool
is_bar kind.Or = true
is_bar _ = false

-- whether an operand can end with a word of a kind
abbrev pub ends_operand : Kind → Bool
ends_operand kind.Name = true
ends_operand kind.Number = true
ends_operand kind.True = true
ends_operand kind.False = true
ends_operand kind.Empty = true
ends_operand kind.Close = true
ends_operand kind.CloseSet = true
ends_operand _ = false

-- whether a `|` is open behind a word of kind j, with a word of kind k before: one that is open is closed by the next, and else one opens where no operand has ended
abbrev pub is_inside : Kind → Bool → Kind → Bool
is_inside k inside kind.Or = not (inside || ends_operand k)
is_inside k inside _ = inside

-- within two such signs no blank stands beside them
abbrev pub is_beside : Kind → Bool → Kind → Bool
is_beside k inside j = inside && (is_bar k || is_bar j)

abbrev pub blank_if : Bool → List ℕ
blank_if p = if p then 32 ∷ [] else []

abbrev pub gap_before : Kind → Bool → Kind → List ℕ → List ℕ
gap_before k inside j [] = []
gap_before k inside j (b ∷ d) = blank_if (not (is_beside k inside j) && is_apart k b)

abbrev pub line_end : Kind → List ℕ
line_end kind.Semicolon = 10 ∷ []
line_end _ = []

-- the text of words behind a word of a kind, where a `|` is open or not
abbrev pub spaced_behind : Kind → Bool → List Word → List ℕ
spaced_behind k inside [] = []
spaced_behind k inside (word j d ∷ ws) = gap_before k inside j d ++ (d ++ (line_end j ++ spaced_behind j (is_inside k inside j) ws))

-- the text of words from the beginning of a line
abbrev pub spaced : List Word → List ℕ
spaced ws = spaced_behind kind.Semicolon false ws

-- a word that a text begins with where nothing follows; of a sign behind which no blank stands it is said which it is
abbrev pub IsAlone : Word → Type 0
IsAlone (word kind.Open d) = d ≡ 40 ∷ []
IsAlone (word kind.OpenSet d) = d ≡ 123 ∷ []
IsAlone (word kind.Not d) = d ≡ 126 ∷ []
IsAlone (word kind.Or d) = d ≡ 124 ∷ []
IsAlone (word k d) = front d ≡ Some (k, length d)

abbrev pub AreAlone : List Word → Type 0
AreAlone [] = Unit {0}
AreAlone (w ∷ ws) = IsAlone w × AreAlone ws

-- each name among words is one that stands alone
abbrev pub NamesAlone : List Word → Type 0
NamesAlone [] = Unit {0}
NamesAlone (word kind.Name d ∷ ws) = (front d ≡ Some (kind.Name, length d)) × NamesAlone ws
NamesAlone (word k d ∷ ws) = NamesAlone ws
