-- What stands between the tokens of a text: blanks, and comments from `#` up to the end of their line.
use Rattle.std.specs.Prelude.{ℕ, suc, ◌==◌, Bool, true, false, ◌||◌, ◌&&◌, if◌then◌else◌, List, [], ◌∷◌}

-- a space, a tab, a carriage return or the end of a line
abbrev pub is_blank : ℕ → Bool
is_blank b = (b == 32) || ((b == 9) || ((b == 13) || (b == 10)))

-- within a comment any byte goes on, outside a blank and the sign of a comment
abbrev pub goes_on : Bool → ℕ → Bool
goes_on comment b = comment || (is_blank b || (b == 35))

-- a comment begins with its sign and ends with its line
abbrev pub in_comment : Bool → ℕ → Bool
in_comment comment b = if b == 10 then false else (comment || (b == 35))

-- blanks and comments, where a comment may have begun already
abbrev pub is_gap_from : Bool → List ℕ → Bool
is_gap_from comment [] = true
is_gap_from comment (b ∷ s) = goes_on comment b && is_gap_from (in_comment comment b) s

abbrev pub is_gap : List ℕ → Bool
is_gap s = is_gap_from false s

-- how many bytes at the front are blanks and comments
abbrev pub gap_len : Bool → List ℕ → ℕ
gap_len comment [] = 0
gap_len comment (b ∷ s) = if goes_on comment b then suc (gap_len (in_comment comment b) s) else 0
