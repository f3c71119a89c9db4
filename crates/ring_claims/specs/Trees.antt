-- The ring claim that a tree says, and how many sets a ring claim is about: one more than the highest number in it.
use Rattle.std.specs.Prelude.{ℕ, suc, max}
use Rattle.kinds.specs.Atoms as atoms
use Rattle.ring_claims.specs.Meaning as rings
use Rattle.ring_claims.specs.declared.tree.RingClaim.{RingClaim}
use Rattle.ring_claims.specs.declared.tree.RingClaim.TheVariants.{Atom, Not', And', Some'}

abbrev pub said : RingClaim → rings.RingClaim
said (Atom a) = rings.atom a
said (Not' _ c) = rings.not1 (said c)
said (And' _ c _ d) = rings.and1 (said c) (said d)
said (Some' x _ c) = rings.some x (said c)

abbrev pub sets_of : rings.RingClaim → ℕ
sets_of (rings.atom a) = atoms.sets_of (rings.atom_of a)
sets_of (rings.not1 c) = sets_of c
sets_of (rings.and1 c d) = max (sets_of c) (sets_of d)
sets_of (rings.some x c) = max (suc x) (sets_of c)
