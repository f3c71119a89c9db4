-- The first bytes of a ring claim: those of the row claim's sign that is the same.
use Rattle.std.specs.Prelude.{ℕ, List}
use Rattle.row_claims.specs.Signs as rows
use Rattle.row_claims.specs.declared.sign.RowSign.{RowSign}
use Rattle.row_claims.specs.declared.sign.RowSign.TheVariants as row
use Rattle.ring_claims.specs.Meaning.{atom_of}
use Rattle.ring_claims.specs.declared.sign.RingSign.{RingSign}
use Rattle.ring_claims.specs.declared.sign.RingSign.TheVariants.{Atom, Not, And, Some}

abbrev pub row_sign : RingSign → RowSign
row_sign (Atom a) = row.Atom (atom_of a)
row_sign Not = row.Not
row_sign And = row.And
row_sign (Some x) = row.Some x

abbrev pub head : RingSign → List ℕ
head g = rows.head (row_sign g)
