-- Why formulas are not asked of the rows of a rule.
use Rattle.std.specs.Prelude.{ℕ, List, IsTrue}
use Rattle.formulas.specs.declared.formula.Formula.{Formula}
use Rattle.rows.specs.Faults.{limits_ok}
use Rattle.keeping.specs.Breaches.{names_ok}
use Rattle.rules.specs.declared.known.Unsound.{Unsound}
use Rattle.rules.specs.declared.known.Unsound.TheVariants.{Bits, UnknownBit, UnknownName, OutOfMemory}

-- only where one of them names what is no set of the row, or for want of memory
abbrev pub Unkept : ℕ → List Formula → Formula → Unsound → Type 0
Unkept b start c Bits = ⊥
Unkept b start c UnknownBit = ⊥
Unkept b start c UnknownName = IsTrue (limits_ok b start) → IsTrue (names_ok b c) → ⊥
Unkept b start c OutOfMemory = Unit {0}
