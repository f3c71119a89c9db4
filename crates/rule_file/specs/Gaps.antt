-- What stands between the tokens of a rule file.
use Rattle.std.specs.Prelude.{ℕ, ◌==◌, Bool, true, false, not, ◌||◌, if◌then◌else◌, List, [], ◌∷◌}

-- a space, a tab or a carriage return
abbrev pub is_blank : ℕ → Bool
is_blank b = (b == 32) || (b == 9) || (b == 13)

abbrev pub in_line_byte : ℕ → Bool
in_line_byte b = not (b == 10)

-- no line ends within it
abbrev pub in_line : List ℕ → Bool
in_line [] = true
in_line (b ∷ s) = if in_line_byte b then in_line s else false

-- blanks, and then perhaps a comment that ends with its line or before
abbrev pub is_gap : List ℕ → Bool
is_gap [] = true
is_gap (b ∷ s) = if is_blank b then is_gap s else (if b == 35 then in_line s else false)

-- behind blanks the line ends or has a comment
abbrev pub ends_line : List ℕ → Bool
ends_line [] = true
ends_line (b ∷ s) = if is_blank b then ends_line s else ((b == 10) || (b == 35))
