-- Each claim that a rule makes tells of the row that its sets are.
use Rattle.std.proofs.Common.{◌≡◌, ℕ, suc, ◌-◌, ◌<◌, ◌≤◌, Bool, true, false, not, ◌&&◌, ◌||◌, T, eqb, ltb, ◌↔◌, List, [], ◌∷◌, length, sym, refl, ap, ◌∙◌, inl, inr, ltb→lt}
use Rattle.words.specs.Words.{Sets, Word}
use Rattle.claims.specs.Claims.{Holds, not1, and1}
use Rattle.claims.proofs.FrontLaws.{both_passed, pass_both}
use Rattle.formulas.specs.declared.formula.Formula.{Formula}
use Rattle.formulas.specs.Meaning.{Meaning}
use Rattle.formulas.specs.Names.{names}
use Rattle.translation.specs.Translation.{claim}
use Rattle.translation.proofs.Families.{Family}
use Rattle.translation.proofs.Connectives.{iff_and, iff_not}
use Rattle.translation.proofs.Formulas.{says}
use Rattle.rows.specs.declared.rule.Layout.{Layout}
use Rattle.rows.specs.declared.rule.Asked.{Asked}
use Rattle.rows.specs.declared.rule.Literal.{Literal}
use Rattle.rows.specs.declared.rule.Asked.TheVariants.{There, Bit}
use Rattle.rows.specs.Views.{View}
use Rattle.rows.specs.Patterns.{fits, any_fits}
use Rattle.rows.specs.Rules.{Line, moves}
use Rattle.rows.specs.Rows.{EachModule, step, Stuck, Allowed, Somewhere}
use Rattle.rows.specs.Local.{Local, eval, neg, each, somewhere}
use Rattle.rows.specs.RuleLocal.{fits_local, allowed_local, waits_local}
use Rattle.rows.specs.RowClaims.{below, same_number, Gives, has_module}
use Rattle.rows.specs.Limits.{row_env, AllowedRow, names_of, groups_ok, row_numbers}
use Rattle.rows.specs.Faults.{asked_ok, literals_ok, patterns_ok, lines_ok, member, unchanged, all_below, after_number, allowed_part, fault_part, limits_after, next_claim, has_changed, limits_ok, has_named, RuleClaims, RuleClaimsTell}
use Rattle.rows.proofs.Bools.{bool_apart, found}
use Rattle.rows.proofs.LocalLaws.{neg_eval, somewhere_says, each_says}
use Rattle.rows.proofs.RuleLocalLaws.{as_view, fits_eval, allowed_eval, waits_eval}
use Rattle.rows.proofs.Viewing.{Alike, fits_alike, any_alike, moves_alike, view_of, each_place, views}
use Rattle.rows.proofs.NextLaws.{known, next_says}
use Rattle.rows.proofs.LimitsLaws.{number_row, with_limits_says, limits_fail_says, stand_next}
use Rattle.rows.proofs.NamedLaws.{named_row, named_known}
use Rattle.rows.proofs.LimitsAfterLaws.{all_after, some_after, named_after}
use Rattle.rows.proofs.StepLaws.{as_long}
use Rattle.rows.proofs.RowShape.{has_module_says}
use Rattle.rows.proofs.Telling.{tells}

-- patterns that name such bits and such bits name bits that are both
module _ (p q : ℕ → Bool) where
  asked_both : (a : Asked) → T (asked_ok p a) → T (asked_ok q a) → T (asked_ok (λ j. p j && q j) a)
  asked_both There g h = tt
  asked_both (Bit j) g h = pass_both (p j) (q j) g h

  literals_both : (ps : List Literal) → T (literals_ok p ps) → T (literals_ok q ps) → T (literals_ok (λ j. p j && q j) ps)
  literals_both [] g h = tt
  literals_both (l ∷ ps) g h =
      let (a, c) = both_passed (asked_ok p l.asked) (literals_ok p ps) g in
      let (b, e) = both_passed (asked_ok q l.asked) (literals_ok q ps) h in
      pass_both (asked_ok (λ j. p j && q j) l.asked) (literals_ok (λ j. p j && q j) ps) (asked_both l.asked a b) (literals_both ps c e)

  patterns_both : (pss : List (List Literal)) → T (patterns_ok p pss) → T (patterns_ok q pss) → T (patterns_ok (λ j. p j && q j) pss)
  patterns_both [] g h = tt
  patterns_both (ps ∷ pss) g h =
      let (a, c) = both_passed (literals_ok p ps) (patterns_ok p pss) g in
      let (b, e) = both_passed (literals_ok q ps) (patterns_ok q pss) h in
      pass_both (literals_ok (λ j. p j && q j) ps) (patterns_ok (λ j. p j && q j) pss) (literals_both ps a b) (patterns_both pss c e)

-- what each module of a row sees, and what some module sees, by a claim
module _ (s : Layout) (b : ℕ) (ok : ℕ → Bool) (x : ℕ → ℕ) (v : Sets) (w : Word) (g : Gives b ok x v w) where
  each_row : (f : Local) (P : View → Bool) → ((i : ℕ) → eval s (length w) f v i ≡ P (as_view s (length w) b x v i)) → ((u t : View) → Alike ok u t → P u ≡ P t) → Holds (each s b f) v ↔ EachModule s P w
  each_row f P e a =
      let k = each_says s v (length w) b f g.places in
      let m = each_place s P w in (
        λ h. m.1 (λ i l. sym (e i ∙ a (as_view s (length w) b x v i) (view_of s w i) (views s b ok x v w g i l)) ∙ k.0 h i l),
        λ h. k.1 (λ i l. e i ∙ (a (as_view s (length w) b x v i) (view_of s w i) (views s b ok x v w g i l) ∙ m.0 h i l)),
      )

  some_row_module : (f : Local) (P : View → Bool) → ((i : ℕ) → eval s (length w) f v i ≡ P (as_view s (length w) b x v i)) → ((u t : View) → Alike ok u t → P u ≡ P t) → Holds (somewhere s b f) v ↔ (EachModule s (λ t. not (P t)) w → ⊥)
  some_row_module f P e a = (to, from)
    where
      seen_there : (i : ℕ) → i < length w → eval s (length w) f v i ≡ P (view_of s w i)
      seen_there i l = e i ∙ a (as_view s (length w) b x v i) (view_of s w i) (views s b ok x v w g i l)

      to : Holds (somewhere s b f) v → EachModule s (λ t. not (P t)) w → ⊥
      to h n =
          let (i, l, t) = (somewhere_says s v (length w) b f g.places).0 h in
          bool_apart ((each_place s (λ t. not (P t)) w).0 n i l) (ap not (sym (seen_there i l) ∙ t))

      from : (EachModule s (λ t. not (P t)) w → ⊥) → Holds (somewhere s b f) v
      from n = elim (found (eval s (length w) f v) (length w)) [
        | inl p ↦ (somewhere_says s v (length w) b f g.places).1 p
        | inr q ↦ absurd (n ((each_place s (λ t. not (P t)) w).1 (λ i l. ap not (sym (seen_there i l) ∙ q i l))))
      ]

  allowed_says : (pss : List (List Literal)) → T (patterns_ok ok pss) → Holds (each s b (allowed_local b x pss)) v ↔ Allowed s pss w
  allowed_says pss h = each_row (allowed_local b x pss) (any_fits pss) (λ i. allowed_eval s (length w) b x v i pss) (λ u t a. any_alike ok u t a pss h)

  stuck_says : (R : List Line) → T (lines_ok ok R) → Holds (each s b (waits_local b x R)) v ↔ Stuck s R w
  stuck_says R h = each_row (waits_local b x R) (λ u. not (moves R u)) (λ i. waits_eval s (length w) b x v i R) (λ u t a. ap not (moves_alike ok u t a R h))

  somewhere_fits : (ps : List Literal) → T (literals_ok ok ps) → Holds (somewhere s b (fits_local b x ps)) v ↔ Somewhere s ps w
  somewhere_fits ps h = some_row_module (fits_local b x ps) (fits ps) (λ i. fits_eval s (length w) b x v i ps) (λ u t a. fits_alike ok u t a ps h)

  not_allowed_says : (pss : List (List Literal)) → T (patterns_ok ok pss) → Holds (somewhere s b (neg (allowed_local b x pss))) v ↔ (Allowed s pss w → ⊥)
  not_allowed_says pss h = (to, from)
    where
      to : Holds (somewhere s b (neg (allowed_local b x pss))) v → Allowed s pss w → ⊥
      to t al =
          let (i, l, e) = (somewhere_says s v (length w) b (neg (allowed_local b x pss)) g.places).0 t in
          let all_eval = (each_says s v (length w) b (allowed_local b x pss) g.places).0 ((allowed_says pss h).1 al) in
          bool_apart (sym (neg_eval s (length w) (allowed_local b x pss) v i) ∙ e) (ap not (all_eval i l))

      from : (Allowed s pss w → ⊥) → Holds (somewhere s b (neg (allowed_local b x pss))) v
      from n = elim (found (eval s (length w) (neg (allowed_local b x pss)) v) (length w)) [
        | inl p ↦ (somewhere_says s v (length w) b (neg (allowed_local b x pss)) g.places).1 p
        | inr q ↦ absurd (n ((allowed_says pss h).0 ((each_says s v (length w) b (allowed_local b x pss) g.places).1 (λ i l. twice (eval s (length w) (allowed_local b x pss) v i) (sym (neg_eval s (length w) (allowed_local b x pss) v i) ∙ q i l)))))
      ]
        where
          twice : (t : Bool) → not t ≡ false → t ≡ true
          twice true e = refl
          twice false e = bool_apart (sym e) refl

module _ (s : Layout) (b : ℕ) (one_bit : 1 ≤ b) (js : List ℕ) (pss : List (List Literal)) (l : List Formula) (R : List Line) (hp : T (patterns_ok (below b) pss)) (hl : T (limits_ok b l)) (hr : T (lines_ok (below b) R)) (hc : T (has_changed b js pss l R)) where
  abbrev seen : ℕ → Bool
  seen j = member js j || unchanged R j

  bits_below : T (all_below b js)
  bits_below = (both_passed (all_below b js) (patterns_ok seen pss && groups_ok (λ x. eqb x b || seen x) (names_of l)) hc).0

  asked : T (patterns_ok seen pss) × T (groups_ok (λ x. eqb x b || seen x) (names_of l))
  asked = both_passed (patterns_ok seen pss) (groups_ok (λ x. eqb x b || seen x) (names_of l)) (both_passed (all_below b js) (patterns_ok seen pss && groups_ok (λ x. eqb x b || seen x) (names_of l)) hc).1

  module _ (v : Sets) (w : Word) (f : Family v) (g : Gives b (below b) same_number v w) where
    allowed_row : Holds (allowed_part s b same_number pss l) v ↔ AllowedRow s b pss l w
    allowed_row = with_limits_says b (below b) same_number v w f g (λ x t. ltb→lt x b t) refl l (named_row b (names_of l) hl) (each s b (allowed_local b same_number pss)) (allowed_says s b (below b) same_number v w g pss hp)

    abbrev later : List Formula
    later = limits_after b l

    left_row : Holds (next_claim s b js R (fault_part s b (after_number b js) pss later)) v ↔ (AllowedRow s b pss later (step s b R w) → ⊥)
    left_row = next_says b js R bits_below s w hr v f g (fault_part s b (after_number b js) pss later) (AllowedRow s b pss later (step s b R w) → ⊥)
        (λ z fz gz gy.
        limits_fail_says b (known b js R) (after_number b js) z (step s b R w) fz gy (λ x t. ltb→lt x b (both_passed (ltb x b) (seen x) t).0) (number_row b js bits_below) later (named_known b js R (names_of later) (named_after b (λ x. ltb x (suc b)) l hl) (named_after b (λ x. eqb x b || seen x) l asked.1)) (each s b (allowed_local b (after_number b js) pss)) (somewhere s b (neg (allowed_local b (after_number b js) pss)))
        (allowed_says s b (known b js R) (after_number b js) z (step s b R w) gy pss patterns_known) (not_allowed_says s b (known b js R) (after_number b js) z (step s b R w) gy pss patterns_known))
      where
        patterns_known : T (patterns_ok (known b js R) pss)
        patterns_known = patterns_both (below b) seen pss hp asked.0

    allowed_left : Holds (and1 (allowed_part s b same_number pss l) (next_claim s b js R (fault_part s b (after_number b js) pss later))) v ↔ (AllowedRow s b pss l w × (AllowedRow s b pss l (step s b R w) → ⊥))
    allowed_left = (
      λ h. (allowed_row.0 h.0, λ p. left_row.0 h.1 (p.0, some_after b (row_env b (step s b R w) (step s b R w)) l p.1)),
      λ h. (allowed_row.1 h.0, left_row.1 (λ p. h.1 (p.0, all_after b v f w (step s b R w) g.places (as_long s b R w) l h.0.1 p.1))),
    )

    fails_row : (ks : List ℕ) (a : Formula) → T (has_named b ks a) → Holds (next_claim s b ks R (not1 (claim a (row_numbers b same_number)))) v ↔ (Meaning a (row_env b w (step s b R w)) → ⊥)
    fails_row ks a h =
        let (k, t) = both_passed (all_below b ks) (groups_ok (λ x. ltb x (suc b) || member ks (x - suc b)) (names a)) h in
        next_says b ks R k s w hr v f g (not1 (claim a (row_numbers b same_number))) (Meaning a (row_env b w (step s b R w)) → ⊥)
        (λ z fz gz gy. iff_not (says a (row_numbers b same_number) (row_env b w (step s b R w)) z fz (stand_next b ks R k z w (step s b R w) gz gy (names a) t)))

  rule_claims : RuleClaims s b js pss l R
  rule_claims = record {
    allowed = tells b one_bit (and1 (has_module b) (allowed_part s b same_number pss l)) (λ w. (w ≡ [] → ⊥) × AllowedRow s b pss l w) (λ v w f hw g. iff_and (has_module_says b one_bit v w g) (allowed_row v w f g));
    stuck = tells b one_bit (and1 (has_module b) (and1 (allowed_part s b same_number pss l) (each s b (waits_local b same_number R)))) (λ w. (w ≡ [] → ⊥) × (AllowedRow s b pss l w × Stuck s R w))
        (λ v w f hw g. iff_and (has_module_says b one_bit v w g) (iff_and (allowed_row v w f g) (stuck_says s b (below b) same_number v w g R hr)));
    left = tells b one_bit (and1 (allowed_part s b same_number pss l) (next_claim s b js R (fault_part s b (after_number b js) pss (limits_after b l)))) (λ w. AllowedRow s b pss l w × (AllowedRow s b pss l (step s b R w) → ⊥))
        (λ v w f hw g. allowed_left v w f g);
    place = λ ps hs. tells b one_bit (and1 (allowed_part s b same_number pss l) (somewhere s b (fits_local b same_number ps))) (λ w. AllowedRow s b pss l w × Somewhere s ps w)
        (λ v w f hw g. iff_and (allowed_row v w f g) (somewhere_fits s b (below b) same_number v w g ps hs));
    fails = λ ks a h. tells b one_bit (and1 (has_module b) (and1 (allowed_part s b same_number pss l) (next_claim s b ks R (not1 (claim a (row_numbers b same_number)))))) (λ w. (w ≡ [] → ⊥) × (AllowedRow s b pss l w × (Meaning a (row_env b w (step s b R w)) → ⊥)))
        (λ v w f hw g. iff_and (has_module_says b one_bit v w g) (iff_and (allowed_row v w f g) (fails_row v w f g ks a h)));
  }

pub rule_claims_tell : RuleClaimsTell
rule_claims_tell s b js pss l R h hp hl hr hc = rule_claims s b h js pss l R hp hl hr hc
