-- The claims that are judged tell of the rows that show that a claim is not kept.
use Rattle.std.proofs.Common.{ℕ, ◌||◌, T, eqb, ltb, ◌↔◌, List, refl, ltb→lt}
use Rattle.words.specs.Words.{Sets, Word}
use Rattle.claims.specs.Claims.{Holds, not1, and1}
use Rattle.claims.proofs.FrontLaws.{both_passed}
use Rattle.formulas.specs.declared.formula.Formula.{Formula}
use Rattle.formulas.specs.Names.{names}
use Rattle.translation.specs.Translation.{claim}
use Rattle.translation.proofs.Families.{Family}
use Rattle.translation.proofs.Connectives.{iff_and, iff_not}
use Rattle.rows.specs.declared.rule.Layout.{Layout}
use Rattle.rows.specs.RowClaims.{below, same_number, Gives}
use Rattle.rows.specs.Rules.{Line}
use Rattle.rows.specs.Rows.{step}
use Rattle.rows.specs.Limits.{names_of, groups_ok, row_numbers, with_limits}
use Rattle.rows.specs.Faults.{member, unchanged, all_below, after_number, lines_ok, limits_ok, next_claim}
use Rattle.rows.proofs.LimitsLaws.{number_row, with_limits_says}
use Rattle.rows.proofs.NamedLaws.{named_row, named_known}
use Rattle.rows.proofs.NextLaws.{known, next_says}
use Rattle.rows.proofs.Telling.{tells}
use Rattle.keeping.specs.Breaches.{names_ok, traced}
use Rattle.keeping.specs.Kept.{OfRow, Breaks}
use Rattle.keeping.specs.Laws.{BreachesTold}
use Rattle.keeping.specs.declared.moment.Moment.TheVariants.{Start, Step}
use Rattle.keeping.proofs.SaysLaws.{formula_says, row_says}

module _ (s : Layout) (b : ℕ) (js : List ℕ) (R : List Line) (start : List Formula) (c d : Formula) (hr : T (lines_ok (below b) R)) (hs : T (limits_ok b start)) (hc : T (names_ok b c)) (hd : T (names_ok b d)) (hj : T (traced b js R d)) where
  bits_below : T (all_below b js)
  bits_below = (both_passed (all_below b js) (groups_ok (λ x. eqb x b || (member js x || unchanged R x)) (names d)) hj).0

  named : T (groups_ok (λ x. eqb x b || (member js x || unchanged R x)) (names d))
  named = (both_passed (all_below b js) (groups_ok (λ x. eqb x b || (member js x || unchanged R x)) (names d)) hj).1

  module _ (v : Sets) (w : Word) (f : Family v) (g : Gives b (below b) same_number v w) where
    at_start : Holds (with_limits (row_numbers b same_number) start (not1 (claim d (row_numbers b same_number)))) v ↔ Breaks s b R start c d Start w
    at_start =
        let r = with_limits_says b (below b) same_number v w f g (λ x k. ltb→lt x b k) refl start (named_row b (names_of start) hs) (not1 (claim d (row_numbers b same_number))) (iff_not (row_says b d hd v w f g)) in
        (λ h. ((r.0 h).1, (r.0 h).0), λ p. r.1 (p.1, p.0))

    in_step : Holds (and1 (claim c (row_numbers b same_number)) (next_claim s b js R (not1 (claim d (row_numbers b (after_number b js)))))) v ↔ Breaks s b R start c d Step w
    in_step = iff_and (row_says b c hc v w f g) (next_says b js R bits_below s w hr v f g (not1 (claim d (row_numbers b (after_number b js)))) (OfRow b d (step s b R w) → ⊥)
        (λ z fz gz gy. iff_not (formula_says b (known b js R) (after_number b js) z (step s b R w) fz gy (λ x k. ltb→lt x b (both_passed (ltb x b) (member js x || unchanged R x) k).0) (number_row b js bits_below) d (named_known b js R (names d) hd named))))

pub breaches_told : BreachesTold
breaches_told s b js R start c d one_bit hr hs hc hd hj Start = tells b one_bit (with_limits (row_numbers b same_number) start (not1 (claim d (row_numbers b same_number)))) (Breaks s b R start c d Start)
    (λ v w f hw g. at_start s b js R start c d hr hs hc hd hj v w f g)
breaches_told s b js R start c d one_bit hr hs hc hd hj Step = tells b one_bit (and1 (claim c (row_numbers b same_number)) (next_claim s b js R (not1 (claim d (row_numbers b (after_number b js)))))) (Breaks s b R start c d Step)
    (λ v w f hw g. in_step s b js R start c d hr hs hc hd hj v w f g)
