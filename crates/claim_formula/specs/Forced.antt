-- Claims that hold only where a set has exactly one place.
use Rattle.std.specs.Prelude.{ℕ, Bool, false, cond, ◌||◌, ◌==◌}
use Rattle.claims.specs.Claims.{C, atom, not1, and1, some}
use Rattle.kinds.specs.declared.atom.Atom.TheVariants.{Related, Counted}
use Rattle.kinds.specs.declared.relation.Relation.{Relation}
use Rattle.kinds.specs.declared.relation.Relation.TheVariants.{Within, Single, Next, Before}

-- a claim about one set or two says that set x has exactly one place
abbrev pub relation_forces : ℕ → Relation → Bool
relation_forces x (Within y z) = false
relation_forces x (Single y) = x == y
relation_forces x (Next y z) = x == y || x == z
relation_forces x (Before y z) = x == y || x == z

-- one of the claims that are claimed together says so; counting never does, since sets of other
-- numbers of places have the same rest
abbrev pub forces : ℕ → C → Bool
forces x (atom (Related r)) = relation_forces x r
forces x (atom (Counted m)) = false
forces x (not1 c) = false
forces x (and1 c d) = forces x c || forces x d
forces x (some y c) = cond (x == y) false (forces x c)
