-- A message beside the line that it is about.
use Rattle.std.specs.Prelude.{ℕ, ◌-◌, List, [], ◌∷◌, ◌++◌, map, take, ◌==◌, if◌then◌else◌}
use Rattle.std.specs.Fmt.{decimal}
use Rattle.display.specs.Ruler.{blanks}

-- a tab under each tab, else a blank
abbrev pub under : List ℕ → List ℕ
under text = map (λ byte. if byte == 9 then 9 else 32) text

-- the line, four blanks in front, and below it a caret under the column
abbrev pub excerpt_of : List ℕ → ℕ → List ℕ
excerpt_of line column = blanks 4 ++ (line ++ (10 ∷ (blanks 4 ++ (under (take (column - 1) line) ++ (94 ∷ 10 ∷ [])))))

-- FILE:LINE:COLUMN: and a blank
abbrev pub place_of : List ℕ → ℕ → ℕ → List ℕ
place_of file line column = file ++ (58 ∷ (decimal line ++ (58 ∷ (decimal column ++ (58 ∷ 32 ∷ [])))))
