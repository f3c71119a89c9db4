-- The claims that tell of the rows that show that a claim is not kept. A part d of the claim c is asked for by itself, so that of the row after only those bits are needed that d names and some line changes.
use Rattle.std.specs.Prelude.{ℕ, suc, Bool, ◌&&◌, ◌||◌, ◌==◌, nat_lt, List}
use Rattle.claims.specs.Claims.{C, not1, and1}
use Rattle.formulas.specs.declared.formula.Formula.{Formula}
use Rattle.formulas.specs.Names.{names}
use Rattle.translation.specs.Translation.{claim}
use Rattle.rows.specs.declared.rule.Layout.{Layout}
use Rattle.rows.specs.RowClaims.{same_number, is_row}
use Rattle.rows.specs.Rules.{Line}
use Rattle.rows.specs.Limits.{groups_ok, row_numbers, with_limits}
use Rattle.rows.specs.Faults.{member, unchanged, all_below, after_number, next_claim}
use Rattle.keeping.specs.declared.moment.Moment.{Moment}
use Rattle.keeping.specs.declared.moment.Moment.TheVariants.{Start, Step}

-- of a row each formula of the start holds, and d does not
abbrev pub start_claim : ℕ → List Formula → Formula → C
start_claim b start d = and1 (is_row b) (with_limits (row_numbers b same_number) start (not1 (claim d (row_numbers b same_number))))

-- of a row c holds, and of the row after it, whose bits js are sets of their own, d does not
abbrev pub step_claim : Layout → ℕ → List ℕ → List Line → Formula → Formula → C
step_claim s b js R c d = and1 (is_row b) (and1 (claim c (row_numbers b same_number)) (next_claim s b js R (not1 (claim d (row_numbers b (after_number b js))))))

abbrev pub breach_claim : Layout → ℕ → List ℕ → List Line → List Formula → Formula → Formula → Moment → C
breach_claim s b js R start c d Start = start_claim b start d
breach_claim s b js R start c d Step = step_claim s b js R c d

-- the formula names bits of a row and its places alone
abbrev pub names_ok : ℕ → Formula → Bool
names_ok b d = groups_ok (λ x. nat_lt x (suc b)) (names d)

-- js are bits below b, and have each bit that the formula names and that some line changes
abbrev pub traced : ℕ → List ℕ → List Line → Formula → Bool
traced b js R d = all_below b js && groups_ok (λ x. x == b || (member js x || unchanged R x)) (names d)
