-- The ends of a word as they are shown.
use Rattle.std.specs.Prelude.{ℕ, List, [], ◌∷◌}
use Rattle.display.specs.declared.ends.Ends.{Ends}
use Rattle.display.specs.declared.ends.Ends.TheVariants.{Hidden, Walls, Seam}

-- what stands at an end: nothing, | or :
abbrev pub sign_of : Ends → List ℕ
sign_of Hidden = []
sign_of Walls = 124 ∷ []
sign_of Seam = 58 ∷ []

-- how many signs wide that is
abbrev pub width_of : Ends → ℕ
width_of Hidden = 0
width_of Walls = 1
width_of Seam = 1
