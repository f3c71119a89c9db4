-- A row and the rows after it, how they are shown as rows of marks, and the name of their picture.
use Rattle.std.specs.Prelude.{◌≡◌, ℕ, zero, suc, ◌==◌, List, [], ◌∷◌, ◌++◌, length, map, codes, if◌then◌else◌}
use Rattle.std.specs.Fmt.{decimal}
use Rattle.words.specs.Words.{Word}
use Rattle.display.specs.declared.ends.Ends.{Ends}
use Rattle.display.specs.declared.ends.Ends.TheVariants.{Hidden, Seam}
use Rattle.display.specs.Marks.{shown}
use Rattle.diagram.specs.declared.history.History.{History}
use Rattle.rows.specs.declared.rule.Layout.{Layout}
use Rattle.rows.specs.declared.rule.Layout.TheVariants.{Line, Ring}
use Rattle.rules.specs.Property.{after}
use Rattle.rules.specs.declared.rule.Rule.{Rule}

-- the row after so many steps
abbrev pub row_after : Rule → Word → ℕ → Word
row_after r w zero = w
row_after r w (suc n) = after r (row_after r w n)

-- the row, and the rows after 1 to n steps
abbrev pub rows_from : Rule → Word → ℕ → List Word
rows_from r w zero = w ∷ []
rows_from r w (suc n) = rows_from r w n ++ row_after r w (suc n) ∷ []

abbrev pub rows_of : History → List Word
rows_of h = map (λ row. row.items) h.rows.items

-- the rows are the row and those after 1 to n steps
pub record Follows (r : Rule) (w : Word) (n : ℕ) (h : History) : Type 0 where
  pub rows : rows_of h ≡ rows_from r w n
  pub modules : h.modules ≡ length w

-- what stands before a row: before each but the first its step
abbrev pub step_line : ℕ → List ℕ
step_line t = if t == 0 then [] else (codes "    after step " ++ (decimal t ++ codes "\n"))

-- a ring is shown with the seam where it is cut
abbrev pub ends_of : Layout → Ends
ends_of Line = Hidden
ends_of Ring = Seam

-- rows as rows of marks, the first of which is that after t steps
abbrev pub rows_shown : Layout → List (List ℕ) → ℕ → List Word → List ℕ
rows_shown s names t [] = []
rows_shown s names t (w ∷ ws) = step_line t ++ (shown (ends_of s) names w ++ rows_shown s names (suc t) ws)

-- the name of the picture with that title that shows what is called so
abbrev pub picture_name : List ℕ → List ℕ → List ℕ
picture_name title short = title ++ (codes "." ++ (short ++ codes ".svg"))
