-- Formulas about rows of modules of b bits. A name of a set is a number: j below b names the places whose module has bit j, b the row's places, and b + 1 + j the places whose module has bit j after one step.
use Rattle.std.specs.Prelude.{ℕ, zero, suc, ◌+◌, ◌-◌, Bool, true, false, cond, ◌&&◌, List, [], ◌∷◌, ◌++◌, map, ◌==◌, nat_lt}
use Rattle.words.specs.Words.{Word, bit}
use Rattle.claims.specs.Claims.{C, not1, and1}
use Rattle.formulas.specs.declared.name.Name.{Name}
use Rattle.formulas.specs.declared.name.Name.TheVariants.{OfPlace, OfGroup}
use Rattle.formulas.specs.declared.formula.Formula.{Formula}
use Rattle.formulas.specs.Meaning.{Env, Meaning}
use Rattle.formulas.specs.Names.{names}
use Rattle.translation.specs.Numbers.{Numbering, numbered}
use Rattle.translation.specs.Translation.{claim}
use Rattle.rows.specs.declared.rule.Layout.{Layout}
use Rattle.rows.specs.declared.rule.Literal.{Literal}
use Rattle.rows.specs.Rows.{Allowed}

-- what the names stand for in row w with row u after it
abbrev pub row_env : ℕ → Word → Word → Env
row_env b w u = record { places = λ x. 0; groups = λ x. cond (nat_lt x b) (map (bit x) w) (cond (x == b) (map (λ a. true) w) (map (bit (x - suc b)) u)) }

-- each of the formulas holds
abbrev pub AllMean : List Formula → Env → Type 0
AllMean [] e = Unit {0}
AllMean (a ∷ l) e = Meaning a e × AllMean l e

-- each module with its neighbours is as one of the patterns says, and each of the limits holds of the row
abbrev pub AllowedRow : Layout → ℕ → List (List Literal) → List Formula → Word → Type 0
AllowedRow s b pss l w = Allowed s pss w × AllMean l (row_env b w w)

-- the names that are free in the formulas
abbrev pub names_of : List Formula → List Name
names_of [] = []
names_of (a ∷ l) = names a ++ names_of l

-- they are names of such sets alone
abbrev pub groups_ok : (ℕ → Bool) → List Name → Bool
groups_ok ok [] = true
groups_ok ok (OfPlace x ∷ l) = false
groups_ok ok (OfGroup x ∷ l) = ok x && groups_ok ok l

-- set y x for each name x of a set below n
abbrev pub bound : ℕ → (ℕ → ℕ) → Numbering → Numbering
bound zero y ρ = ρ
bound (suc n) y ρ = bound n y (numbered ρ (OfGroup n) (y n))

-- the sets of a row of b bits, and of the row after
abbrev pub row_numbers : ℕ → (ℕ → ℕ) → Numbering
row_numbers b y = bound (suc (b + b)) y (λ x. 0)

-- each of the formulas holds, and c
abbrev pub with_limits : Numbering → List Formula → C → C
with_limits ρ [] c = c
with_limits ρ (a ∷ l) c = and1 (claim a ρ) (with_limits ρ l c)

-- one of the formulas does not hold, or c does not; without formulas that is d
abbrev pub limits_fail : Numbering → List Formula → C → C → C
limits_fail ρ [] c d = d
limits_fail ρ (a ∷ l) c d = not1 (with_limits ρ (a ∷ l) c)
