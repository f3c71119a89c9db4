-- What is printed of an answer.
use Rattle.std.specs.Prelude.{ℕ, ◌==◌, Bool, true, false, List, [], ◌∷◌, Option, Some, None, ◌++◌, length, codes, if◌then◌else◌}
use Rattle.std.specs.Fmt.{decimal}
use Rattle.words.specs.Words.{Word}
use Rattle.display.specs.declared.ends.Ends.{Ends}
use Rattle.display.specs.declared.ends.Ends.TheVariants.{Hidden, Walls, Seam}
use Rattle.display.specs.Marks.{shown}
use Rattle.display.specs.Columns.{columns_of}
use Rattle.solve.specs.declared.answer.Answer.{Answer}
use Rattle.solve.specs.declared.answer.Answer.TheVariants.{Always, Unmet, Never, Both, TooLarge}
use Rattle.resolve.specs.declared.scope.Shape.{Shape}
use Rattle.resolve.specs.declared.scope.Shape.TheVariants.{Row, Ring}
use Rattle.claim_report.specs.declared.told.Subject.{Subject}

-- what the declared names stand for
abbrev pub kind_of : Bool → Bool → List ℕ
kind_of true true = codes "places and sets"
kind_of true false = codes "places"
kind_of false _ = codes "sets"

-- rows, rings, or what the declared names stand for
abbrev pub words_of : Option Shape → List ℕ → List ℕ
words_of None kind = kind
words_of (Some Row) kind = codes "rows"
words_of (Some Ring) kind = codes "rings"

abbrev pub subject_of : Subject → List ℕ
subject_of s = words_of s.shape (kind_of s.places s.sets) ++ (if s.assumes then codes " that meet the assumptions" else [])

-- a word without places
abbrev pub empty_word : Option Shape → List ℕ
empty_word None = codes "nothing anywhere"
empty_word (Some Row) = codes "the empty row"
empty_word (Some Ring) = codes "the empty ring"

abbrev pub empty_of : Option Shape → List ℕ
empty_of shape = codes " of: " ++ (empty_word shape ++ codes " (0 places).\n")

-- the ends of a word as they are shown: a row stands between walls, and a ring is cut at a seam
abbrev pub ends_of : Option Shape → Ends
ends_of None = Hidden
ends_of (Some Row) = Walls
ends_of (Some Ring) = Seam

-- a word as rows of marks, or that it has no places
abbrev pub word_of : Option Shape → List (List ℕ) → Word → List ℕ
word_of shape names w = if length w == 0 then empty_of shape else
    if length w == 1 then codes ", of 1 place:\n" ++ shown (ends_of shape) names w else
    codes ", of " ++ (decimal (length w) ++ (codes " places:\n" ++ shown (ends_of shape) names w))

-- of no names, of some
abbrev pub by_names : List (List ℕ) → List ℕ → List ℕ → List ℕ
by_names [] none some = none
by_names (_ ∷ _) none some = some

abbrev pub too_large : ℕ → List ℕ
too_large n = codes "too large: more than " ++ (decimal n ++ codes " classes are told apart")

abbrev pub both_of : Subject → List (List ℕ) → Word → Word → List ℕ
both_of s names u v = codes "both " ++ (decimal (length u) ++ (codes " " ++ (decimal (length v) ++ codes "\n")))
    ++ (codes "It holds of some " ++ (subject_of s ++ (codes " and not of others. First" ++ word_of s.shape names u))
    ++ (codes "It does not hold first" ++ word_of s.shape names v))

abbrev pub told_of : Subject → List (List ℕ) → Answer → List ℕ
told_of s names Always = by_names names (codes "always\nIt holds.\n") (codes "always\nIt holds of all " ++ (subject_of s ++ codes ".\n"))
told_of s names Unmet = codes "always\nNothing meets the assumptions.\n"
told_of s names Never = by_names names (codes "never\nIt does not hold.\n") (codes "never\nIt holds of no " ++ (subject_of s ++ codes ".\n"))
told_of s names (Both u v) = both_of s names u.items v.items
told_of s names (TooLarge n) = too_large n

-- the same in one line, words as numbers
abbrev pub columns_told : Answer → List ℕ
columns_told Always = codes "always\n"
columns_told Unmet = codes "always\n"
columns_told Never = codes "never\n"
columns_told (Both u v) = codes "both " ++ (decimal (length u.items) ++ (codes " " ++ (decimal (length v.items)
    ++ (codes " | " ++ (columns_of u.items ++ (codes " | " ++ (columns_of v.items ++ codes "\n")))))))
columns_told (TooLarge n) = too_large n
