-- The row claim that a tree says, and how many sets a row claim is about: one more than the highest number in it.
use Rattle.std.specs.Prelude.{ℕ, suc, max}
use Rattle.kinds.specs.Atoms as atoms
use Rattle.row_claims.specs.Meaning as rows
use Rattle.row_claims.specs.declared.tree.RowClaim.{RowClaim}
use Rattle.row_claims.specs.declared.tree.RowClaim.TheVariants.{Atom, Last, Not', And', Some'}

abbrev pub said : RowClaim → rows.RowClaim
said (Atom a) = rows.atom a
said (Last x) = rows.last x
said (Not' _ c) = rows.not1 (said c)
said (And' _ c _ d) = rows.and1 (said c) (said d)
said (Some' x _ c) = rows.some x (said c)

abbrev pub sets_of : rows.RowClaim → ℕ
sets_of (rows.atom a) = atoms.sets_of a
sets_of (rows.last x) = suc x
sets_of (rows.not1 c) = sets_of c
sets_of (rows.and1 c d) = max (sets_of c) (sets_of d)
sets_of (rows.some x c) = max (suc x) (sets_of c)
