-- Numbers with a space between each two.
use Rattle.std.specs.Prelude.{ℕ, List, [], ◌∷◌, ◌++◌}
use Rattle.std.specs.List.{flat_map}
use Rattle.std.specs.Fmt.{decimal}

-- the first number, and each other one behind a space
abbrev pub columns_of : List ℕ → List ℕ
columns_of [] = []
columns_of (first ∷ rest) = decimal first ++ flat_map (λ number. 32 ∷ decimal number) rest
