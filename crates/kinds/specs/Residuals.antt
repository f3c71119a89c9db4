-- What is left of a relation once a column is read, and whether that holds where nothing follows:
-- the states of its machine.
use Rattle.std.specs.Prelude.{ℕ, Bool, true, false}
use Rattle.words.specs.Words.{bit}
use Rattle.kinds.specs.Machines.{Machine}
use Rattle.kinds.specs.Relations.{first, second}
use Rattle.kinds.specs.declared.relation.Relation.{Relation}
use Rattle.kinds.specs.declared.relation.Relation.TheVariants.{Within, Single, Next, Before}
use Rattle.kinds.specs.declared.residual.Residual.{Residual}
use Rattle.kinds.specs.declared.residual.Residual.TheVariants.{Inside, One, Behind, Far, Alone, Here, Clear, Gone, Dead}

-- the whole claim
abbrev pub whole : Relation → Residual
whole (Within x y) = Inside
whole (Single x) = One
whole (Next x y) = Behind
whole (Before x y) = Far

-- what is left after a column that has x or not, and y or not
abbrev pub after : Residual → Bool → Bool → Residual
after Inside true false = Dead
after Inside _ _ = Inside
after One true _ = Gone
after One false _ = One
after Behind true false = Here
after Behind false false = Behind
after Far true false = Alone
after Far false false = Far
after Alone false true = Clear
after Alone false false = Alone
after Here false true = Clear
after Clear false false = Clear
after Gone false _ = Gone
after _ _ _ = Dead

-- whether it holds where nothing follows
abbrev pub ends : Residual → Bool
ends Inside = true
ends Clear = true
ends Gone = true
ends _ = false

-- residuals in their order
abbrev pub number : Residual → ℕ
number Inside = 0
number One = 1
number Behind = 2
number Far = 3
number Alone = 4
number Here = 5
number Clear = 6
number Gone = 7
number Dead = 8

abbrev pub residuals : Relation → Machine Residual
residuals r = record { size = 9; start = whole r; step = λ q c. after q (bit (first r) c) (bit (second r) c); ends = ends }
