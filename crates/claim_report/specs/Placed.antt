-- Where it is said to be that a text's claim is too large.
use Rattle.std.specs.Prelude.{◌≡◌, ℕ, ◌⊎◌, List, [], ◌++◌, Option, Some, None, codes, IsUtf8}
use Rattle.std.specs.Fmt.{decimal}
use Rattle.trees.specs.Position.{line_of, column_of, text_of_line}
use Rattle.trees.specs.declared.position.Span.{Span}
use Rattle.trees.specs.declared.tree.Item.{Item}
use Rattle.display.specs.Beside.{excerpt_of, place_of}
use Rattle.solve.specs.Narrowing.{Narrowest}
use Rattle.solve.specs.declared.answer.Answer.{Answer}
use Rattle.solve.specs.declared.answer.Answer.TheVariants.{Always, Unmet, Never, Both, TooLarge}
use Rattle.claim_report.specs.Told.{too_large}

abbrev pub message : List ℕ
message = codes "here the innermost part begins that is too large by itself"

-- a line with a caret under the column, if the line is text; else nothing
abbrev pub IsExcerpt : List ℕ → ℕ → List ℕ → Type 0
IsExcerpt line column words = (IsUtf8 line × (words ≡ excerpt_of line column)) ⊎ ((IsUtf8 line → ⊥) × (words ≡ []))

-- the file, the line and the column where the span begins; and these, the message and the line below
abbrev pub IsBeginning : List ℕ → List ℕ → Span → List ℕ → Type 0
IsBeginning file text span words =
    let line = line_of text span.start in
    let column = column_of text span.start in
    (excerpt : List ℕ) × IsExcerpt (text_of_line text span.start) column excerpt
    × (words ≡ codes " at " ++ (file ++ (codes ":" ++ (decimal line ++ (codes ":" ++ (decimal column ++ (codes "\n"
    ++ (place_of file line column ++ (message ++ (codes "\n" ++ excerpt))))))))))

-- the beginning of a span, or that there is none
abbrev pub IsPlaceAt : List ℕ → List ℕ → Option Span → List ℕ → Type 0
IsPlaceAt file text None words = words ≡ codes " at " ++ (file ++ codes ", all formulas together\n")
IsPlaceAt file text (Some span) words = IsBeginning file text span words

-- where an innermost part of the text begins that is too large by itself, or that none is
abbrev pub IsPlace : List ℕ → List ℕ → List Item → ℕ → List ℕ → Type 0
IsPlace file text items n words = (found : Option Span) × Narrowest items n found × IsPlaceAt file text found words

-- what stands behind an answer: where it is too large, else nothing
abbrev pub IsPlaceOf : List ℕ → List ℕ → List Item → Answer → List ℕ → Type 0
IsPlaceOf file text items (TooLarge n) words = IsPlace file text items n words
IsPlaceOf file text items Always words = words ≡ []
IsPlaceOf file text items Unmet words = words ≡ []
IsPlaceOf file text items Never words = words ≡ []
IsPlaceOf file text items (Both u v) words = words ≡ []

-- that n classes do not suffice, and where
abbrev pub IsTooLarge : List ℕ → List ℕ → List Item → ℕ → List ℕ → Type 0
IsTooLarge file text items n words = (place : List ℕ) × IsPlace file text items n place × (words ≡ too_large n ++ place)
