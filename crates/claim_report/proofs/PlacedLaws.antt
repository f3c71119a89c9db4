-- The words of a place are those of a span's beginning.
use Rattle.std.proofs.Common.{◌≡◌, ℕ, List, [], ◌++◌, Option, Some, None, Bor, codes, IsUtf8, MatchOption, inl, inr, refl, ap, ◌∙◌}
use Rattle.std.specs.Fmt.{decimal}
use Rattle.std.specs.Option.{option_map_or}
use Rattle.trees.specs.Position.{line_of, column_of, text_of_line}
use Rattle.trees.specs.declared.position.Span.{Span}
use Rattle.display.specs.Beside.{excerpt_of, place_of}
use Rattle.claim_report.specs.Placed.{message, IsBeginning}

-- what is printed: the file, a line and a column, and a message beside a line
abbrev pub printed : List ℕ → ℕ → ℕ → List ℕ → List ℕ → List ℕ
printed file line column said excerpt =
    codes " at " ++ (file ++ (codes ":" ++ (decimal line ++ (codes ":" ++ (decimal column ++ (codes "\n" ++ (place_of file line column ++ (said ++ (codes "\n" ++ excerpt)))))))))

-- the same with what a message beside a line holds
abbrev pub printed_beside : List ℕ → ℕ → ℕ → List ℕ → ℕ → ℕ → List ℕ → Option (Bor (List ℕ)) → List ℕ
printed_beside file at_line at_column named line column said shown =
    codes " at " ++ (file ++ (codes ":" ++ (decimal at_line ++ (codes ":" ++ (decimal at_column ++ (codes "\n" ++ (place_of named line column ++ (said ++ (codes "\n" ++ option_map_or (λ t. excerpt_of t.now column) shown [])))))))))

pub same_printed : (file : List ℕ) (at_line at_column : ℕ) (named : List ℕ) (line column : ℕ) (said : List ℕ) (shown : Option (Bor (List ℕ))) (k l : ℕ) →
    named ≡ file → at_line ≡ k → at_column ≡ l → line ≡ k → column ≡ l → said ≡ message →
    printed_beside file at_line at_column named line column said shown ≡ printed file k l message (option_map_or (λ t. excerpt_of t.now l) shown [])
same_printed file at_line at_column named line column said shown k l f p q r s m = rw f (rw p (rw q (rw r (rw s (rw m refl)))))

pub begins : (file text : List ℕ) (span : Span) (shown : Option (Bor (List ℕ))) (words : List ℕ) →
    MatchOption shown (IsUtf8 (text_of_line text span.start) → ⊥) (λ t. (t.now ≡ text_of_line text span.start) × IsUtf8 (text_of_line text span.start)) →
    words ≡ printed file (line_of text span.start) (column_of text span.start) message (option_map_or (λ t. excerpt_of t.now (column_of text span.start)) shown []) →
    IsBeginning file text span words
begins file text span None words t e = ([], inr (t, refl), e)
begins file text span (Some line) words t e = (
  excerpt_of (text_of_line text span.start) (column_of text span.start),
  inl (t.1, refl),
  e ∙ ap (λ l. printed file (line_of text span.start) (column_of text span.start) message (excerpt_of l (column_of text span.start))) t.0,
)
