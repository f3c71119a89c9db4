-- How a choice of the file's helpers is told: by their numbers, which people count from 1 on, and by their names.
use Rattle.std.specs.Prelude.{ℕ, ◌+◌, ◌==◌, Option, Some, None, List, [], ◌∷◌, ◌++◌, length, get_or, codes, if◌then◌else◌}
use Rattle.std.specs.Fmt.{decimal}
use Rattle.kept_check.specs.declared.answer.TooLarge.{TooLarge}
use Rattle.strengthen.specs.declared.answer.Stronger.{Stronger}
use Rattle.strengthen.specs.declared.answer.Stronger.TheVariants as stronger
use Rattle.rule_report.specs.KeptWords.{moment_of, why_of}

-- what stands behind a number, and behind a name, where so many more follow
abbrev pub behind_number : ℕ → List ℕ
behind_number n = if n == 0 then [] else (if n == 1 then codes " and " else codes ", ")

abbrev pub behind_name : ℕ → List ℕ
behind_name n = if n == 0 then [] else codes ", "

abbrev pub numbers_of : List ℕ → List ℕ
numbers_of [] = []
numbers_of (i ∷ is) = decimal (i + 1) ++ (behind_number (length is) ++ numbers_of is)

-- those of these names that have the numbers
abbrev pub names_at : List (List ℕ) → List ℕ → List ℕ
names_at names [] = []
names_at names (i ∷ is) = get_or names i [] ++ (behind_name (length is) ++ names_at names is)

-- and behind the numbers, where there are any
abbrev pub called : List (List ℕ) → List ℕ → List ℕ
called names is = if length is == 0 then [] else (codes ": " ++ names_at names is)

-- without numbers it is the claim alone
abbrev pub choice_words : List ℕ → List ℕ
choice_words is = if length is == 0 then codes "alone" else (codes "with the help of " ++ numbers_of is)

-- which part is too large, when, and how large it is
abbrev pub large_words : TooLarge → List ℕ
large_words t = codes "part " ++ (decimal t.part ++ (codes ", " ++ (moment_of t.moment ++ (codes ": " ++ why_of t.why))))

-- the choice at which an answer stands, if it stands at one
abbrev pub end_of : Stronger → Option (List ℕ)
end_of (stronger.With is) = Some is.items
end_of stronger.NoneAmong = None
end_of (stronger.TooLarge x) = Some x.choice.items
