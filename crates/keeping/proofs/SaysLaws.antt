-- What a formula says of a row, by its claim; so of each row it can be told whether it holds.
use Rattle.std.proofs.Common.{◌≡◌, ℕ, ◌<◌, Bool, ◌||◌, T, eqb, ◌⊎◌, ◌↔◌, [], ◌∷◌, sym, refl, subst, append-nil, inl, inr, ltb→lt}
use Rattle.words.specs.Words.{Sets, Word, Columns, sets}
use Rattle.claims.specs.Claims.{Holds, within}
use Rattle.automata.proofs.Told.{told}
use Rattle.formulas.specs.declared.formula.Formula.{Formula}
use Rattle.formulas.specs.Meaning.{Meaning}
use Rattle.formulas.specs.Names.{names}
use Rattle.translation.specs.Translation.{claim}
use Rattle.translation.proofs.Families.{Family}
use Rattle.translation.proofs.Opened.{within_itself}
use Rattle.rows.specs.RowClaims.{below, same_number, Gives, marked}
use Rattle.rows.specs.Limits.{row_env, groups_ok, row_numbers}
use Rattle.rows.proofs.LimitsLaws.{with_limits_says}
use Rattle.rows.proofs.NamedLaws.{named_row}
use Rattle.rows.proofs.Telling.{marked_gives}
use Rattle.keeping.specs.Breaches.{names_ok}
use Rattle.keeping.specs.Kept.{OfRow}

-- sets that give a row
module _ (b : ℕ) (ok : ℕ → Bool) (y : ℕ → ℕ) (z : Sets) (w : Word) (f : Family z) (g : Gives b ok y z w) (low : (x : ℕ) → T (ok x) → x < b) (own : y b ≡ b) where
  pub formula_says : (d : Formula) → T (groups_ok (λ x. eqb x b || ok x) (names d)) → Holds (claim d (row_numbers b y)) z ↔ Meaning d (row_env b w w)
  formula_says d t =
      let r = with_limits_says b ok y z w f g low own (d ∷ []) (subst (λ l. T (groups_ok (λ x. eqb x b || ok x) l)) (sym (append-nil (names d))) t) (within 0 0) {P = Unit {0}} (λ h. tt, λ h. within_itself 0 z) in
      (λ h. (r.0 (h, within_itself 0 z)).1.0, λ m. (r.1 (tt, (m, tt))).0)

module _ (b : ℕ) (d : Formula) (t : T (names_ok b d)) where
  pub row_says : (v : Sets) (w : Word) → Family v → Gives b (below b) same_number v w → Holds (claim d (row_numbers b same_number)) v ↔ OfRow b d w
  row_says v w f g = formula_says b (below b) same_number v w f g (λ x k. ltb→lt x b k) refl d (named_row b (names d) t)

  -- of each row it can be told
  pub decided : (w : Word) → Columns b w → OfRow b d w ⊎ (OfRow b d w → ⊥)
  decided w hw =
      let e = row_says (sets (marked b w)) w (marked b w, refl) (marked_gives b w hw) in
      elim (told (claim d (row_numbers b same_number)) (marked b w)) [ inl p ↦ inl (e.0 p) | inr n ↦ inr (λ o. n (e.1 o)) ]
