-- Why there is no rule of these parts.
use Rattle.std.specs.Prelude.{ℕ, ◌≤◌, List, IsTrue}
use Rattle.formulas.specs.declared.formula.Formula.{Formula}
use Rattle.rows.specs.RowClaims.{below}
use Rattle.rows.specs.Faults.{patterns_ok, lines_ok, limits_ok}
use Rattle.rows.specs.declared.rule.Literal.{Literal}
use Rattle.rows.specs.Rules.{Line}
use Rattle.rules.specs.declared.known.Unsound.{Unsound}
use Rattle.rules.specs.declared.known.Unsound.TheVariants.{Bits, UnknownBit, UnknownName, OutOfMemory}

-- each reason is given only where it is so
abbrev pub Refused : ℕ → List (List Literal) → List Formula → List Line → Unsound → Type 0
Refused b pss l R Bits = 1 ≤ b → b ≤ 11 → ⊥
Refused b pss l R UnknownBit = IsTrue (patterns_ok (below b) pss) → IsTrue (lines_ok (below b) R) → ⊥
Refused b pss l R UnknownName = IsTrue (limits_ok b l) → ⊥
Refused b pss l R OutOfMemory = Unit {0}
