-- The first bytes of a row claim: its sign, and the numbers of the sign's sets.
use Rattle.std.specs.Prelude.{ℕ, List, [], ◌∷◌}
use Rattle.kinds.specs.Atoms.{row_of}
use Rattle.row_claims.specs.declared.sign.RowSign.{RowSign}
use Rattle.row_claims.specs.declared.sign.RowSign.TheVariants.{Atom, Last, Not, And, Some}

abbrev pub head : RowSign → List ℕ
head (Atom a) = row_of a
head (Last x) = 8 ∷ x ∷ []
head Not = 4 ∷ []
head And = 5 ∷ []
head (Some x) = 6 ∷ x ∷ []
