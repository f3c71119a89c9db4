-- The given rows of a file.
use Rattle.std.specs.Prelude.{◌≡◌, ℕ, ◌==◌, Option, Some, None, List, [], ◌∷◌, map}
use Rattle.std.specs.List.{AllZip, filter_map, list_any}
use Rattle.words.specs.Words.{bit}
use Rattle.rule_file.specs.declared.token.Token.{Token}
use Rattle.rule_file.specs.declared.tree.Line.{Line}
use Rattle.rule_file.specs.declared.tree.Module.{Module}
use Rattle.rule_file.specs.declared.tree.Module.TheVariants as module_
use Rattle.rule_file.specs.declared.tree.Statement.{Statement}
use Rattle.rule_file.specs.declared.tree.Statement.TheVariants as statement
use Rattle.rule_source.specs.Patterns.{number}
use Rattle.rule_source.specs.declared.bits.Bits.{Bits}
use Rattle.rule_source.specs.declared.given.Given.{Given}

-- the bits that a module of a row names
abbrev pub names_in : Module → List Token
names_in (module_.Bare t) = []
names_in (module_.Bits t more) = t ∷ map (λ j. j.name) more.items

-- a column has the bits that are named, and no others
abbrev pub HasBits : Bits → List Token → ℕ → Type 0
HasBits b ts column = (j : ℕ) → bit j column ≡ list_any (λ t. number b t == j) ts

abbrev pub IsModule : Bits → Module → ℕ → Type 0
IsModule b m column = HasBits b (names_in m) column

-- a row has a column for each module, in their order
abbrev pub IsRow : Bits → List Module → Given → Type 0
IsRow b ms g = AllZip (IsModule b) ms g.columns.items

abbrev pub row_by : Statement → Option (List Module)
row_by (statement.Row h ms) = Some ms.items
row_by _ = None

abbrev pub rows_in : List Line → List (List Module)
rows_in ls = filter_map (λ l. row_by l.statement) ls

-- the given rows of a file, in their order
abbrev pub AreRows : Bits → List Line → List Given → Type 0
AreRows b ls gs = AllZip (IsRow b) (rows_in ls) gs
