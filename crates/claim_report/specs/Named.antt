-- The names of what a text declares.
use Rattle.std.specs.Prelude.{ℕ, Bool, true, List, [], ◌∷◌, ◌++◌, string_bytes}
use Rattle.trees.specs.declared.tree.Name.{Name}
use Rattle.trees.specs.declared.tree.Item.{Item}
use Rattle.resolve.specs.Asks.{declared}
use Rattle.resolve.specs.declared.scope.Kind.{Kind}
use Rattle.resolve.specs.declared.scope.Kind.TheVariants.{Place, Set, Row}

-- a name, if it is that of a place or set
abbrev pub other_name : Kind → List ℕ → List (List ℕ)
other_name Place x = x ∷ []
other_name Set x = x ∷ []
other_name Row x = []

-- and if it is the row's
abbrev pub row_name : Kind → List ℕ → List (List ℕ)
row_name Place x = []
row_name Set x = []
row_name Row x = x ∷ []

abbrev pub other_names : List (Name × Kind) → List (List ℕ)
other_names [] = []
other_names (d ∷ l) = other_name d.1 (string_bytes d.0.text) ++ other_names l

abbrev pub row_names : List (Name × Kind) → List (List ℕ)
row_names [] = []
row_names (d ∷ l) = row_name d.1 (string_bytes d.0.text) ++ row_names l

-- the names of the declared places and sets
abbrev pub names_of : List Item → List (List ℕ)
names_of items = other_names (declared items)

-- the same of whole lines of marks: a row without names is a line of its own
abbrev pub line_names : Bool → List (List ℕ) → List (List ℕ)
line_names true [] = [] ∷ []
line_names row l = l
