-- A word as rows of marks, under a ruler.
use Rattle.std.specs.Prelude.{ℕ, zero, suc, ◌+◌, ◌*◌, ◌-◌, ◌/◌, Bool, List, [], ◌∷◌, ◌++◌, length, map, max, fold, nat_le, nat_lt, take, drop, ◌==◌, if◌then◌else◌}
use Rattle.std.specs.Int.{div_ceil}
use Rattle.words.specs.Words.{bit, Word}
use Rattle.display.specs.declared.ends.Ends.{Ends}
use Rattle.display.specs.Ends.{sign_of, width_of}
use Rattle.display.specs.Ruler.{blanks, tens_line, units_line}

-- the mark of a column, by ASCII codes: # if the set has the place, else .
abbrev pub mark_of : ℕ → ℕ → ℕ
mark_of x column = if bit x column then 35 else 46

abbrev pub marks_of : ℕ → Word → List ℕ
marks_of x word = map (mark_of x) word

-- the length of the longest name
abbrev pub longest : List (List ℕ) → ℕ
longest names = fold (λ most name. max most (length name)) 0 names

-- what stands just before the marks of a line whose first place is `from`: the sign of an end before place 0, else blanks that are as wide
abbrev pub left_end : Ends → ℕ → List ℕ
left_end ends from = if from == 0 then sign_of ends else blanks (width_of ends)

-- what stands just behind the marks of a line: the sign of an end on the last line
abbrev pub right_end : Ends → Bool → List ℕ
right_end ends last = if last then sign_of ends else []

-- a row: four blanks, the name of set x, blanks up to the longest name's end and one more, and the marks of the set between its ends
abbrev pub row_of : ℕ → List ℕ → ℕ → List ℕ → Word → List ℕ → List ℕ
row_of width name x left columns right =
    blanks 4 ++ (name ++ (blanks (width - length name) ++ (32 ∷ (left ++ (marks_of x columns ++ (right ++ (10 ∷ [])))))))

-- the rows of the sets from x on
abbrev pub rows_of : ℕ → List (List ℕ) → ℕ → List ℕ → Word → List ℕ → List ℕ
rows_of width [] x left columns right = []
rows_of width (name ∷ names) x left columns right = row_of width name x left columns right ++ rows_of width names (suc x) left columns right

-- the places that stand on a line, the first of which is `from`: the ruler, its tens if they are wanted, and the rows
abbrev pub block_of : Ends → List (List ℕ) → Word → ℕ → Bool → Bool → List ℕ
block_of ends names columns from tens last =
    let width = longest names in
    (if tens then tens_line width ends from ((length columns - 1) / 10) else [])
    ++ (units_line width ends (length columns) ++ rows_of width names 0 (left_end ends from) columns (right_end ends last))

-- the first so many lines, of 60 places each; the tens are wanted of more than ten places
abbrev pub blocks_of : Ends → List (List ℕ) → Word → ℕ → List ℕ
blocks_of ends names word zero = []
blocks_of ends names word (suc k) = blocks_of ends names word k
    ++ block_of ends names (take 60 (drop (60 * k) word)) (60 * k) (nat_lt 10 (length word)) (nat_le (length word) (60 * k + 60))

-- all lines
abbrev pub shown : Ends → List (List ℕ) → Word → List ℕ
shown ends names word = blocks_of ends names word (div_ceil (length word) 60)
