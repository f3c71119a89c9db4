-- From what is found of a property's claim to what is told of rows.
use Rattle.std.proofs.Common.{ℕ, suc, ◌+◌, ◌<◌, ◌≤◌, List, [], ◌∷◌, sym, subst, arith}
use Rattle.words.specs.Words.{Sets, Word, Columns, sets}
use Rattle.claims.specs.Claims.{C, Holds, not1, within as lies_within}
use Rattle.formulas.specs.declared.formula.Formula.{Formula}
use Rattle.claims.specs.Rows.{row}
use Rattle.claims.specs.Encoded.{sets_needed}
use Rattle.workspace.specs.Floor.{NoRoomIn}
use Rattle.translation.proofs.Opened.{within_itself}
use Rattle.rows.specs.RowClaims.{same_number, marked, Tells, First as FirstRow}
use Rattle.rows.specs.Local.{each}
use Rattle.rows.specs.RuleLocal.{allowed_local}
use Rattle.rows.specs.Limits.{names_of, row_numbers}
use Rattle.rows.specs.Faults.{allowed_part, fault_part, limits_after, RuleClaims}
use Rattle.rows.proofs.LimitsAfterLaws.{claimed_after}
use Rattle.rows.proofs.Telling.{tells as tells_row}
use Rattle.rows.proofs.FaultsLaws.{rule_claims_tell}
use Rattle.rules.specs.Changed.{changed, named_after}
use Rattle.rules.specs.Property.{Has, IsOf, left_of, claim_of}
use Rattle.rules.proofs.ChangedLaws.{is_true, has_them, has_named_them}
use Rattle.rules.specs.declared.rule.Rule.{Rule}
use Rattle.rules.specs.declared.property.Property.{Property}
use Rattle.rules.specs.declared.property.Property.TheVariants.{Allowed, Stuck, Left, Met, Fails}
use Rattle.rule_check.specs.Told.{Found, Judged, Answered, TooManyIn}
use Rattle.rule_check.specs.declared.verdict.Verdict.{Verdict}
use Rattle.rule_check.specs.declared.verdict.Verdict.TheVariants.{Never, First, TooLarge}

above : (b : ℕ) (c : C) → b < sets_needed (suc b) c
above b c = omega arith

-- a property's claim tells of the rows that have it
module _ (r : Rule) where
  all_tell : RuleClaims r.layout r.bits (changed r.bits r.allowed.items r.limits.items r.table.items) r.allowed.items r.limits.items r.table.items
  all_tell =
      let b = r.bits in
      let pss = r.allowed.items in
      let l = r.limits.items in
      let R = r.table.items in
      rule_claims_tell r.layout b (changed b pss l R) pss l R r.one (is_true _ r.patterns) (is_true _ r.names) (is_true _ r.lines) (has_them b pss (names_of l) R (is_true _ r.patterns) (is_true _ r.names))

  -- where no line changes a bit that is asked for, no row that is allowed is left: its claim would say that it is allowed and is not
  both_said : (l : List Formula) (v : Sets) → Holds (allowed_part r.layout r.bits same_number r.allowed.items l) v → Holds (fault_part r.layout r.bits same_number r.allowed.items l) v → ⊥
  both_said [] v h f = h f
  both_said (a ∷ l) v h f = f h

  none_left : RuleClaims r.layout r.bits [] r.allowed.items r.limits.items r.table.items → (w : Word) → Columns r.bits w → Has r Left w → ⊥
  none_left t w hw p = let h = (t.left.of_row w hw).1 p in (let v = sets (marked r.bits w) in both_said (limits_after r.bits r.limits.items) v (claimed_after r.bits (row_numbers r.bits same_number) (each r.layout r.bits (allowed_local r.bits same_number r.allowed.items)) v r.limits.items h.1.0) h.1.1)

  left_tells : (js : List ℕ) → RuleClaims r.layout r.bits js r.allowed.items r.limits.items r.table.items → Tells r.bits (left_of r.layout r.bits js r.allowed.items r.limits.items r.table.items) (Has r Left)
  left_tells [] t = tells_row r.bits r.one (not1 (lies_within r.bits r.bits)) (Has r Left) (λ v w f hw g. (λ h. absurd (h (within_itself r.bits v)), λ p. absurd (none_left t w hw p)))
  left_tells (j ∷ js) t = t.left

  pub tells : (p : Property) → IsOf r p → Tells r.bits (claim_of r p) (Has r p)
  tells Allowed n = all_tell.allowed
  tells Stuck n = all_tell.stuck
  tells Left n = left_tells (changed r.bits r.allowed.items r.limits.items r.table.items) all_tell
  tells (Met q) n = all_tell.place q (is_true _ n)
  tells (Fails a) n = all_tell.fails (named_after r.bits a.value) a.value (has_named_them r.bits a.value (is_true _ n))

-- from what is found of a claim with n classes, as many as there may be, to what is judged of it
pub judged : (m b : ℕ) (c : C) (most n : ℕ) (v : Verdict) → n ≤ most → (n < most → NoRoomIn m (sets_needed (suc b) c ∷ row c) (n + 1)) → Found b (sets_needed (suc b) c) c n v → Judged m b c most v
judged m b c most n Never within memory f = f
judged m b c most n (First r) within memory f = f
judged m b c most n (TooLarge l) within memory f =
    let j : TooManyIn m (sets_needed (suc b) c) c most n = record { many = f.1; within = within; memory = memory } in
    subst (TooManyIn m (sets_needed (suc b) c) c most) (sym f.0) j

-- of a claim that tells of the rows that have a property, what is judged is an answer on it
pub answered : (m b : ℕ) (P : Word → Type 0) (c : C) (most : ℕ) (v : Verdict) → Tells b c P → Judged m b c most v → Answered m b P c most v
answered m b P c most Never t f = t.never (sets_needed (suc b) c) (above b c) f
answered m b P c most (First r) t f =
    let (u, i, same) = f in
    let (x, q, s) = t.first (sets_needed (suc b) c) (above b c) u i in
    subst (FirstRow b P) (sym (same x s.columns q)) s
answered m b P c most (TooLarge n) t f = f
