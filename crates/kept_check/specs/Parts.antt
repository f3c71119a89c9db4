-- The parts of a claim: the formulas of which it says that all hold.
use Rattle.std.specs.Prelude.{ℕ, ◌⊎◌, List, [], ◌∷◌, ◌++◌, IsTrue}
use Rattle.words.specs.Words.{Word}
use Rattle.formulas.specs.declared.formula.Formula.{Formula}
use Rattle.formulas.specs.declared.formula.Formula.TheVariants.{And'}
use Rattle.keeping.specs.Breaches.{names_ok}
use Rattle.keeping.specs.declared.moment.Moment.{Moment}
use Rattle.kept_claims.specs.Breach.{Breaks, Broken}
use Rattle.kept_claims.specs.declared.kept.Keeping.{Keeping}

abbrev pub parts : Formula → List Formula
parts (And' _ a _ b) = parts a ++ parts b
parts d = d ∷ []

-- each of them names sets of the row alone
abbrev pub NamesOk : ℕ → List Formula → Type 0
NamesOk b [] = Unit {0}
NamesOk b (d ∷ ds) = IsTrue (names_ok b d) × NamesOk b ds

-- the row shows of one of them that it does not follow
abbrev pub BrokenAny : Keeping → List Formula → Word → Type 0
BrokenAny k [] w = ⊥
BrokenAny k (d ∷ ds) w = Broken k d w ⊎ BrokenAny k ds w

-- it does at that moment
abbrev pub BreaksAny : Keeping → List Formula → Moment → Word → Type 0
BreaksAny k [] m w = ⊥
BreaksAny k (d ∷ ds) m w = Breaks k d m w ⊎ BreaksAny k ds m w
