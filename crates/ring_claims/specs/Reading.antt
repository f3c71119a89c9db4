-- A ring claim read as a row claim about the same sets.
use Rattle.std.specs.Prelude.{ℕ, Bool, cond, ◌&&◌, nat_lt, nat_le, ◌==◌}
use Rattle.kinds.specs.Atoms.{sets_of}
use Rattle.kinds.specs.declared.atom.Atom.TheVariants.{Related}
use Rattle.kinds.specs.declared.relation.Relation.TheVariants as relation
use Rattle.row_claims.specs.Meaning.{RowClaim}
use Rattle.row_claims.specs.Meaning as rows
use Rattle.ring_claims.specs.Meaning.{RingClaim, atom, not1, and1, some, atom_of}
use Rattle.ring_claims.specs.declared.atom.RingAtom.{RingAtom}
use Rattle.ring_claims.specs.declared.atom.RingAtom.TheVariants.{Within, Single, Next, Multiple}

-- every set's number is below k
abbrev pub ring_ok : ℕ → RingClaim → Bool
ring_ok k (atom a) = nat_le (sets_of (atom_of a)) k
ring_ok k (not1 c) = ring_ok k c
ring_ok k (and1 c d) = ring_ok k c && ring_ok k d
ring_ok k (some x c) = nat_lt x k && ring_ok k c

-- the names of row claims without parts
abbrev pub row_single : ℕ → RowClaim
row_single x = rows.atom (Related (relation.Single x))

abbrev pub row_next : ℕ → ℕ → RowClaim
row_next x y = rows.atom (Related (relation.Next x y))

-- x has one place, and there is no place but the row's last: so the row has one place alone
abbrev pub alone : ℕ → RowClaim
alone x = rows.and1 (row_single x) (rows.not1 (rows.some x (rows.and1 (row_single x) (rows.not1 (rows.last x)))))

-- nothing is behind x's place, and nothing before y's: x has the last place and y the first
abbrev pub at_seam : ℕ → ℕ → RowClaim
at_seam x y = rows.and1 (rows.not1 (rows.some y (row_next x y))) (rows.not1 (rows.some x (row_next x y)))

-- x and y, two sets, have one place each; y's is just behind x's, or they are at the seam
abbrev pub around : ℕ → ℕ → RowClaim
around x y = rows.and1 (row_single x) (rows.and1 (row_single y) (rows.not1 (rows.and1 (rows.not1 (row_next x y)) (rows.not1 (at_seam x y)))))

-- no set besides x and y is needed: a place behind x's is looked for as y, one before y's as x
abbrev pub ring_next : ℕ → ℕ → RowClaim
ring_next x y = cond (x == y) (alone x) (around x y)

abbrev pub atom_in : RingAtom → RowClaim
atom_in (Within x y) = rows.atom (atom_of (Within x y))
atom_in (Single x) = rows.atom (atom_of (Single x))
atom_in (Next x y) = ring_next x y
atom_in (Multiple m) = rows.atom (atom_of (Multiple m))

abbrev pub in_ring : RingClaim → RowClaim
in_ring (atom a) = atom_in a
in_ring (not1 c) = rows.not1 (in_ring c)
in_ring (and1 c d) = rows.and1 (in_ring c) (in_ring d)
in_ring (some x c) = rows.some x (in_ring c)
