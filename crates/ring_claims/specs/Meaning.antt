-- Claims about rings, rows that go round, and when they hold. A ring has exactly as many places as its word has columns, and the last one's next is the first.
use Rattle.std.specs.Prelude.{◌≡◌, ℕ, suc, ◌⊎◌, List, Bool, length, ◌++◌}
use Rattle.words.specs.Words.{Sets, Word, sets}
use Rattle.kinds.specs.Relations.{Only}
use Rattle.kinds.specs.Meaning.{Means}
use Rattle.kinds.specs.declared.atom.Atom.{Atom}
use Rattle.kinds.specs.declared.atom.Atom.TheVariants.{Related, Counted}
use Rattle.kinds.specs.declared.relation.Relation.TheVariants as relation
use Rattle.claims.specs.Claims as claims
use Rattle.row_claims.specs.Meaning.{Inside}
use Rattle.ring_claims.specs.declared.atom.RingAtom.{RingAtom}
use Rattle.ring_claims.specs.declared.atom.RingAtom.TheVariants.{Within, Single, Next, Multiple}

-- Sets are given by their numbers. Before and last are no ring claims: of two places of a ring neither is further on, and none is the last.
pub data RingClaim : Type 0 where
  atom : RingAtom → RingClaim
  not1 : RingClaim → RingClaim
  and1 : RingClaim → RingClaim → RingClaim
  some : ℕ → RingClaim → RingClaim

-- the claim about sets with the same sign
abbrev pub atom_of : RingAtom → Atom
atom_of (Within x y) = Related (relation.Within x y)
atom_of (Single x) = Related (relation.Single x)
atom_of (Next x y) = Related (relation.Next x y)
atom_of (Multiple m) = Counted m

-- of n places, j is the next of i: the one behind it, and of the last the first; so the one place of a ring of one is next to itself
abbrev pub NextOf : ℕ → ℕ → ℕ → Type 0
NextOf n i j = (suc i ≡ j) ⊎ ((suc i ≡ n) × (j ≡ 0))

-- next: x and y have one place each, and y's is the next of x's; the others hold of a ring as of all places
abbrev pub MeansRing : RingAtom → ℕ → Sets → Type 0
MeansRing (Within x y) n v = Means (atom_of (Within x y)) v
MeansRing (Single x) n v = Means (atom_of (Single x)) v
MeansRing (Next x y) n v = (i : ℕ) × (j : ℕ) × Only v x i × Only v y j × NextOf n i j
MeansRing (Multiple m) n v = Means (atom_of (Multiple m)) v

-- Of a ring of n places. some x c: there is a set of places of the ring that, taken for x, makes c hold.
abbrev pub HoldsRing : RingClaim → ℕ → Sets → Type 0
HoldsRing (atom a) n v = MeansRing a n v
HoldsRing (not1 c) n v = HoldsRing c n v → ⊥
HoldsRing (and1 c d) n v = HoldsRing c n v × HoldsRing d n v
HoldsRing (some x c) n v = (u : List Bool) × Inside n u × HoldsRing c n (claims.put v x u)

-- of the ring that a word is, a place for each column
abbrev pub OfRing : RingClaim → Word → Type 0
OfRing c w = HoldsRing c (length w) (sets w)

-- two words that are the same ring turned: what one begins with, the other ends with
abbrev pub Turned : Word → Word → Type 0
Turned u w = (a : Word) × (b : Word) × (u ≡ a ++ b) × (w ≡ b ++ a)
