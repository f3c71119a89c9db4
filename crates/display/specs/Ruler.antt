-- The ruler above rows of marks: the numbers of every tenth place, and the last digits of all.
use Rattle.std.specs.Prelude.{ℕ, zero, suc, ◌+◌, ◌*◌, ◌-◌, ◌%◌, List, [], ◌∷◌, ◌++◌, length, replicate}
use Rattle.std.specs.Fmt.{decimal}
use Rattle.display.specs.declared.ends.Ends.{Ends}
use Rattle.display.specs.Ends.{width_of}

abbrev pub blanks : ℕ → List ℕ
blanks n = replicate n 32

-- what stands in front of a ruler: four blanks, as many as the longest name is long, one more, and as many as the sign of an end is wide
abbrev pub margin : ℕ → Ends → List ℕ
margin width ends = blanks 4 ++ (blanks width ++ blanks (width_of ends + 1))

-- a number, with blanks up to ten signs
abbrev pub ten_wide : ℕ → List ℕ
ten_wide number = decimal number ++ blanks (10 - length (decimal number))

-- the numbers of so many tenth places from one on, each ten signs wide, so that the next stands above its place
abbrev pub tens_before : ℕ → ℕ → List ℕ
tens_before from zero = []
tens_before from (suc k) = tens_before from k ++ ten_wide (from + 10 * k)

-- a line with the numbers of every tenth place from `from` on, behind the margin: `before` numbers, and a last one
abbrev pub tens_line : ℕ → Ends → ℕ → ℕ → List ℕ
tens_line width ends from before = margin width ends ++ (tens_before from before ++ (decimal (from + 10 * before) ++ (10 ∷ [])))

-- the last digits of the numbers of so many places, the first of which is a multiple of ten
abbrev pub units_before : ℕ → List ℕ
units_before zero = []
units_before (suc place) = units_before place ++ decimal (place % 10)

-- a line with these digits, behind the margin
abbrev pub units_line : ℕ → Ends → ℕ → List ℕ
units_line width ends count = margin width ends ++ (units_before count ++ (10 ∷ []))
