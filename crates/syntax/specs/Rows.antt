-- How a text says that it is about a row: `rows;`, or in MONA's words `m2l-str;`; and that it is about a ring: `rings;`.
use Rattle.std.specs.Prelude.{ℕ, List, [], ◌∷◌, Bool, false, ◌&&◌, ◌||◌, if◌then◌else◌, Option, Some, None, codes}
use Rattle.std.specs.Option.{option_or, option_and_then}
use Rattle.std.specs.Str.{bytes_eq}
use denote.Enum.Bare.{sameb}
use Rattle.tokens.specs.contracts.kind.Kind.{the_type}
use Rattle.tokens.specs.declared.kind.Kind.{Kind}
use Rattle.tokens.specs.declared.kind.Kind.TheVariants as kind
use Rattle.trees.specs.declared.tree.Binary.TheVariants as binary
use Rattle.tokens.specs.Words.{Word, word}
use Rattle.syntax.specs.Plain.{Plain, named, sign_of, semicolon}

-- the names of the row's places and of its last place
abbrev pub row_name : List ℕ
row_name = codes "row"

abbrev pub last_name : List ℕ
last_name = codes "last"

-- the name of the ring's places
abbrev pub ring_name : List ℕ
ring_name = codes "ring"

-- the words, which are names elsewhere
abbrev pub rows_name : List ℕ
rows_name = codes "rows"

abbrev pub rings_name : List ℕ
rings_name = codes "rings"

abbrev pub rows_words : List Word
rows_words = word kind.Name rows_name ∷ semicolon ∷ []

abbrev pub rings_words : List Word
rings_words = word kind.Name rings_name ∷ semicolon ∷ []

abbrev pub mona_words : List Word
mona_words = word kind.Foreign (codes "m2l") ∷ sign_of binary.Minus ∷ word kind.Name (codes "str") ∷ semicolon ∷ []

-- the words behind a word of that kind and with these bytes, if words begin with one
abbrev pub behind_word : Kind → List ℕ → List Word → Option (List Word)
behind_word k d [] = None
behind_word k d (word j e ∷ ws) = if sameb the_type j k && bytes_eq e d then Some ws else None

-- the words behind some, if words begin with these
abbrev pub behind_words : List Word → List Word → Option (List Word)
behind_words [] ws = Some ws
behind_words (word k d ∷ us) ws = option_and_then (behind_words us) (behind_word k d ws)

-- the words behind what says that a text is about a row
abbrev pub behind_row : List Word → Option (List Word)
behind_row ws = option_or (behind_words rows_words ws) (behind_words mona_words ws)

-- whether an expression is the name `rows` or `rings` alone
abbrev pub is_rows : Plain → Bool
is_rows (named x) = bytes_eq x rows_name || bytes_eq x rings_name
is_rows _ = false
