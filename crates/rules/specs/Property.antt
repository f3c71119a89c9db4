-- What is asked of rows of a rule, and the claim that tells it.
use Rattle.std.specs.Prelude.{ℕ, suc, ◌+◌, ◌≢◌, Bool, true, List, [], ◌∷◌, IsTrue, nat_lt}
use Rattle.words.specs.Words.{Word}
use Rattle.claims.specs.Claims.{C, within, not1, and1}
use Rattle.formulas.specs.Meaning.{Meaning}
use Rattle.formulas.specs.Names.{names}
use Rattle.formulas.specs.declared.formula.Formula.{Formula}
use Rattle.rows.specs.declared.rule.Layout.{Layout}
use Rattle.rows.specs.declared.rule.Literal.{Literal}
use Rattle.rows.specs.Rules.{Line}
use Rattle.rows.specs.Rows as rows
use Rattle.rows.specs.Rows.{step, Somewhere}
use Rattle.rows.specs.RowClaims.{below, is_row}
use Rattle.rows.specs.Limits.{AllowedRow, row_env, groups_ok}
use Rattle.rows.specs.Faults.{literals_ok, allowed_claim, stuck_claim, left_claim, place_claim, fails_claim}
use Rattle.rules.specs.Changed.{changed, named_after}
use Rattle.rules.specs.declared.known.Unsound.{Unsound}
use Rattle.rules.specs.declared.known.Unsound.TheVariants as unsound
use Rattle.rules.specs.declared.rule.Rule.{Rule}
use Rattle.rules.specs.declared.property.Property.{Property}
use Rattle.rules.specs.declared.property.Property.TheVariants.{Allowed, Stuck, Left, Met, Fails}

-- each module is as one of the rule's patterns says, and each limit holds of the row
abbrev pub IsAllowed : Rule → Word → Type 0
IsAllowed r w = AllowedRow r.layout r.bits r.allowed.items r.limits.items w

-- the row after one step
abbrev pub after : Rule → Word → Word
after r w = step r.layout r.bits r.table.items w

-- the row has the property; the empty row is no answer to the first two and to the last
abbrev pub Has : Rule → Property → Word → Type 0
Has r Allowed w = (w ≢ []) × IsAllowed r w
Has r Stuck w = (w ≢ []) × (IsAllowed r w × rows.Stuck r.layout r.table.items w)
Has r Left w = IsAllowed r w × (IsAllowed r (after r w) → ⊥)
Has r (Met p) w = IsAllowed r w × Somewhere r.layout p w
Has r (Fails a) w = (w ≢ []) × (IsAllowed r w × (Meaning a.value (row_env r.bits w (after r w)) → ⊥))

-- whether it names only bits that a module of the rule has, and its formula only sets of the row and of the row after
abbrev pub is_of : Rule → Property → Bool
is_of r Allowed = true
is_of r Stuck = true
is_of r Left = true
is_of r (Met p) = literals_ok (below r.bits) p
is_of r (Fails a) = groups_ok (λ x. nat_lt x (suc (r.bits + r.bits))) (names a.value)

abbrev pub IsOf : Rule → Property → Type 0
IsOf r p = IsTrue (is_of r p)

-- a row that is allowed, and the row after is not; where no line changes a bit that is asked for there is none, and that is what is claimed
abbrev pub left_of : Layout → ℕ → List ℕ → List (List Literal) → List Formula → List Line → C
left_of s b [] pss l R = and1 (is_row b) (not1 (within b b))
left_of s b (j ∷ js) pss l R = left_claim s b (j ∷ js) pss l R

abbrev pub claim_of : Rule → Property → C
claim_of r Allowed = allowed_claim r.layout r.bits r.allowed.items r.limits.items
claim_of r Stuck = stuck_claim r.layout r.bits r.allowed.items r.limits.items r.table.items
claim_of r Left = left_of r.layout r.bits (changed r.bits r.allowed.items r.limits.items r.table.items) r.allowed.items r.limits.items r.table.items
claim_of r (Met p) = place_claim r.layout r.bits r.allowed.items r.limits.items p
claim_of r (Fails a) = fails_claim r.layout r.bits (named_after r.bits a.value) r.allowed.items r.limits.items r.table.items a.value

-- why a property is not asked of a rule: only memory can be wanting where it names what the rule has
abbrev pub Unasked : Rule → Property → Unsound → Type 0
Unasked r p unsound.OutOfMemory = Unit {0}
Unasked r p unsound.Bits = IsOf r p → ⊥
Unasked r p unsound.UnknownBit = IsOf r p → ⊥
Unasked r p unsound.UnknownName = IsOf r p → ⊥
