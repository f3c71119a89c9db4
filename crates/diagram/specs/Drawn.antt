-- Which parts of which modules are drawn.
use Rattle.std.specs.Prelude.{◌≡◌, ℕ, suc, Bool, true, List, [], ◌∷◌, ◌++◌, Contains, Some, Vec, if◌then◌else◌, slice_get}
use Rattle.std.specs.Global.{Global}
use Rattle.words.specs.Words.{bit}
use Rattle.diagram.specs.Places.{rect_of}
use Rattle.diagram.specs.declared.layout.Layout.{Layout}
use Rattle.diagram.specs.declared.layout.Part.{Part}
use Rattle.diagram.specs.declared.layout.Part.TheVariants.{Frame, Band}
use Rattle.diagram.specs.declared.layout.Rect.{Rect}

-- whether a module shows a part: each has its frame, and the band of a bit that is set
abbrev pub shows : Part → ℕ → Bool
shows Frame column = true
shows (Band j) column = bit j column

-- in the row after a step, there is a module at a place, and it shows the part
pub record ShowsAt (part : Part) (rows : List (Vec ℕ Global)) (step place : ℕ) : Type 0 where
  pub row : Vec ℕ Global
  pub at_step : slice_get rows step ≡ Some row
  pub column : ℕ
  pub at_place : slice_get row.items place ≡ Some column
  pub shown : shows part column ≡ true

-- the rectangle is that of a module that shows the part
pub record IsShown (l : Layout) (part : Part) (rows : List (Vec ℕ Global)) (rect : Rect) : Type 0 where
  pub step : ℕ
  pub place : ℕ
  pub shows_at : ShowsAt part rows step place
  pub lies : rect ≡ rect_of l part step place

-- the rectangles are those of the modules that show the part, and no others
pub record IsDrawn (l : Layout) (part : Part) (rows : List (Vec ℕ Global)) (rects : List Rect) : Type 0 where
  pub each : (step place : ℕ) → ShowsAt part rows step place → Contains rects (rect_of l part step place)
  pub only : (rect : Rect) → Contains rects rect → IsShown l part rows rect

-- the same as lists: the rectangles of a row, from a place on, and those of the rows from a step on
abbrev pub here : Layout → Part → ℕ → ℕ → ℕ → List Rect
here l part step place column = if shows part column then rect_of l part step place ∷ [] else []

abbrev pub of_row : Layout → Part → ℕ → ℕ → List ℕ → List Rect
of_row l part step place [] = []
of_row l part step place (column ∷ row) = here l part step place column ++ of_row l part step (suc place) row

abbrev pub of_rows : Layout → Part → ℕ → List (Vec ℕ Global) → List Rect
of_rows l part step [] = []
of_rows l part step (row ∷ rows) = of_row l part step 0 row.items ++ of_rows l part (suc step) rows
