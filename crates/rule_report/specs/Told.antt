-- The words of an answer.
use Rattle.std.specs.Prelude.{◌≡◌, ℕ, None, Some, List, [], ◌++◌, codes}
use Rattle.std.specs.Fmt.{decimal}
use Rattle.rows.specs.declared.rule.Layout.{Layout}
use Rattle.trees.specs.Position.{line_of, column_of}
use Rattle.trees.specs.declared.position.Span.{Span}
use Rattle.rule_report.specs.declared.answer.Answer.{Answer}
use Rattle.rule_report.specs.declared.answer.Answer.TheVariants.{Never, First, TooLarge, Refused}
use Rattle.rule_report.specs.declared.subject.Subject.{Subject}
use Rattle.rule_report.specs.ShownRows.{rows_of, rows_shown}
use Rattle.rule_report.specs.Subjects.{name_of, settled_of, found_of}

-- what is claimed and what is found, where modules lie so and the bits have these names
abbrev pub told : Layout → List (List ℕ) → Subject → Answer → List ℕ
told y names s Never = codes "  " ++ (name_of y s ++ (codes ": " ++ (settled_of y s ++ codes "\n")))
told y names s (First h) = codes "  " ++ (name_of y s ++ (codes ": " ++ (found_of y s ++ (codes " " ++ (decimal h.modules ++ (codes "\n" ++ rows_shown y names 0 (rows_of h)))))))
told y names s (TooLarge n place) = codes "  " ++ (name_of y s ++ (codes ": too large: more than " ++ (decimal n ++ codes " classes are told apart at ")))
told y names s (Refused e) = codes "  " ++ (name_of y s ++ codes ": too large: ")

-- the line and the column of a place in the file, and behind them what its line is
pub record PlacedAt (file text : List ℕ) (span : Span) (words : List ℕ) : Type 0 where
  pub line : ℕ
  pub column : ℕ
  pub shown : List ℕ
  pub words_are : words ≡ file ++ (codes ":" ++ (decimal line ++ (codes ":" ++ (decimal column ++ (codes "\n" ++ shown)))))
  pub line_is : line ≡ line_of text span.start
  pub column_is : column ≡ column_of text span.start

-- what stands behind: where it is too large; of a refusal, in words, why
abbrev pub Ends : List ℕ → List ℕ → Answer → List ℕ → Type 0
Ends file text Never words = words ≡ []
Ends file text (First h) words = words ≡ []
Ends file text (TooLarge n None) words = words ≡ file ++ codes ", whatever its lines say\n"
Ends file text (TooLarge n (Some span)) words = PlacedAt file text span words
Ends file text (Refused e) words = Unit {0}
