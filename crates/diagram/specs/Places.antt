-- Where the parts of a picture lie, in pixels from its left upper corner. Each row is a line of squares, one a module; a square is
-- divided into bands, one a bit, from the top down.
use Rattle.std.specs.Prelude.{ℕ, ◌+◌, ◌*◌}
use Rattle.diagram.specs.declared.layout.Layout.{Layout}
use Rattle.diagram.specs.declared.layout.Part.{Part}
use Rattle.diagram.specs.declared.layout.Part.TheVariants.{Frame, Band}
use Rattle.diagram.specs.declared.layout.Rect.{Rect}

-- the side of a square
abbrev pub square_of : Layout → ℕ
square_of l = l.bits * l.band

-- the left side of a module's square, and the top of the row after a step
abbrev pub left_of : Layout → ℕ → ℕ
left_of l place = 64 + place * square_of l

abbrev pub first_top_of : Layout → ℕ
first_top_of l = 128 + l.bits * 18

abbrev pub top_of : Layout → ℕ → ℕ
top_of l step = first_top_of l + step * (square_of l + 6)

-- a module's square, and in it the band of a bit
abbrev pub rect_of : Layout → Part → ℕ → ℕ → Rect
rect_of l Frame step place = record { x = left_of l place; y = top_of l step; width = square_of l; height = square_of l }
rect_of l (Band bit) step place = record { x = left_of l place; y = top_of l step + bit * l.band; width = square_of l; height = l.band }
