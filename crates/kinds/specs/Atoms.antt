-- Claims without parts as bytes: a sign, and behind it the claim's numbers.
use Rattle.std.specs.Prelude.{ℕ, suc, max, List, [], ◌∷◌}
use Rattle.kinds.specs.Relations.{first, second}
use Rattle.kinds.specs.declared.atom.Atom.{Atom}
use Rattle.kinds.specs.declared.atom.Atom.TheVariants.{Related, Counted}
use Rattle.kinds.specs.declared.relation.Relation.TheVariants.{Within, Single, Next, Before}

abbrev pub row_of : Atom → List ℕ
row_of (Related (Within x y)) = 0 ∷ x ∷ y ∷ []
row_of (Related (Single x)) = 1 ∷ x ∷ []
row_of (Related (Next x y)) = 2 ∷ x ∷ y ∷ []
row_of (Related (Before x y)) = 3 ∷ x ∷ y ∷ []
row_of (Counted m) = 7 ∷ m.remainder.modulus ∷ m.remainder.rest ∷ m.set ∷ []

-- about how many sets it is: one more than the highest number of a set in it
abbrev pub sets_of : Atom → ℕ
sets_of (Related r) = max (suc (first r)) (suc (second r))
sets_of (Counted m) = suc m.set
