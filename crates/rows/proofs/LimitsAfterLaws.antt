-- Limits on the row's places alone are the same of the row after, so only the others are asked of it.
use Rattle.std.proofs.Common.{◌≡◌, ℕ, Bool, true, false, cond, T, eqb, ◌⊎◌, ◌↔◌, List, [], ◌∷◌, ◌++◌, length, sym, refl, ap, ◌∙◌, subst, inl, inr, arith}
use Rattle.std.proofs.lemmas.Bool.Decides.{eqb_tells}
use Rattle.words.specs.Words.{Sets, Word}
use Rattle.claims.specs.Claims.{has, C, Holds}
use Rattle.claims.proofs.FrontLaws.{both_passed, pass_both}
use Rattle.formulas.specs.declared.name.Name.{Name}
use Rattle.formulas.specs.declared.name.Name.TheVariants.{OfPlace, OfGroup}
use Rattle.formulas.specs.declared.formula.Formula.{Formula}
use Rattle.formulas.specs.Meaning.{Env, Meaning}
use Rattle.formulas.specs.Names.{names}
use Rattle.translation.specs.Numbers.{Numbering}
use Rattle.translation.specs.Translation.{claim}
use Rattle.translation.proofs.Families.{Family}
use Rattle.translation.proofs.Standing.{Stand}
use Rattle.translation.proofs.Formulas.{says}
use Rattle.rows.specs.RowClaims.{same_number, Gives}
use Rattle.rows.specs.Limits.{row_env, AllMean, names_of, groups_ok, row_numbers, with_limits}
use Rattle.rows.specs.Faults.{of_places, limits_after}
use Rattle.rows.proofs.NeighbourLaws.{IsRow}
use Rattle.rows.proofs.LimitsLaws.{stand_groups, row_number, row_place}

-- a formula about the places alone means the same of two rows that are as long
module _ (b : ℕ) (w : Word) (v : Sets) (f : Family v) (is : IsRow b (length w) v) where
  abbrev nothing : Gives b (λ j. false) same_number v w
  nothing = record { places = is; bits = λ j i t. absurd t }

  stand_places : (u : Word) (a : Formula) → T (of_places b a) → Stand v (row_numbers b same_number) (row_env b w u) (names a)
  stand_places u a t = stand_groups (λ x. eqb x b) v (row_numbers b same_number) (row_env b w u) (λ x h i. at x i h (eqb_tells x b)) (names a) t
    where
      at : (x i : ℕ) → T (eqb x b) → ((eqb x b ≡ true) × (x ≡ b)) ⊎ ((eqb x b ≡ false) × (x ≡ b → ⊥)) → v (row_numbers b same_number (OfGroup x)) i ≡ has ((row_env b w u).groups x) i
      at x i h (inl p) = subst (λ x. v (row_numbers b same_number (OfGroup x)) i ≡ has ((row_env b w u).groups x) i) (sym p.1) (ap (λ n. v n i) (row_number b same_number b (omega arith)) ∙ row_place b (λ j. false) same_number v w nothing u i)
      at x i h (inr p) = absurd (subst T p.0 h)

  places_mean : (a : Formula) → T (of_places b a) → Holds (claim a (row_numbers b same_number)) v ↔ Meaning a (row_env b w w)
  places_mean a t = says a (row_numbers b same_number) (row_env b w w) v f (stand_places w a t)

module _ (b : ℕ) (v : Sets) (f : Family v) (w u : Word) (is : IsRow b (length w) v) (as_long : length u ≡ length w) where
  same_places : (a : Formula) → T (of_places b a) → Meaning a (row_env b w w) → Meaning a (row_env b u u)
  same_places a t m = (places_mean b u v f (subst (λ n. IsRow b n v) (sym as_long) is) a t).0 ((places_mean b w v f is a t).1 m)

  -- of the row after all limits hold exactly if those do that are asked of it, where all hold of the row
  pub all_after : (l : List Formula) → AllMean l (row_env b w w) → AllMean (limits_after b l) (row_env b u u) → AllMean l (row_env b u u)
  all_after [] m h = tt
  all_after (a ∷ l) m h = at (of_places b a) refl (λ k. all_after l m.1 k) h
    where
      at : (t : Bool) → of_places b a ≡ t → (AllMean (limits_after b l) (row_env b u u) → AllMean l (row_env b u u)) → AllMean (cond t (limits_after b l) (a ∷ limits_after b l)) (row_env b u u) → AllMean (a ∷ l) (row_env b u u)
      at true e rest h = (same_places a (subst T (sym e) tt) m.0, rest h)
      at false e rest h = (h.0, rest h.1)

pub some_after : (b : ℕ) (e : Env) (l : List Formula) → AllMean l e → AllMean (limits_after b l) e
some_after b e [] h = tt
some_after b e (a ∷ l) h = at (of_places b a) (some_after b e l h.1)
  where
    at : (t : Bool) → AllMean (limits_after b l) e → AllMean (cond t (limits_after b l) (a ∷ limits_after b l)) e
    at true k = k
    at false k = (h.0, k)

-- they name no more than all do
named_front : (test : ℕ → Bool) (l m : List Name) → T (groups_ok test (l ++ m)) → T (groups_ok test l) × T (groups_ok test m)
named_front test [] m t = (tt, t)
named_front test (OfPlace x ∷ l) m t = absurd t
named_front test (OfGroup x ∷ l) m t =
    let (p, q) = both_passed (test x) (groups_ok test (l ++ m)) t in
    let (r, s) = named_front test l m q in
    (pass_both (test x) (groups_ok test l) p r, s)

named_both : (test : ℕ → Bool) (l m : List Name) → T (groups_ok test l) → T (groups_ok test m) → T (groups_ok test (l ++ m))
named_both test [] m t h = h
named_both test (OfPlace x ∷ l) m t h = absurd t
named_both test (OfGroup x ∷ l) m t h = let (p, q) = both_passed (test x) (groups_ok test l) t in pass_both (test x) (groups_ok test (l ++ m)) p (named_both test l m q h)

pub named_after : (b : ℕ) (test : ℕ → Bool) (l : List Formula) → T (groups_ok test (names_of l)) → T (groups_ok test (names_of (limits_after b l)))
named_after b test [] t = tt
named_after b test (a ∷ l) t = at (of_places b a) (named_after b test l (named_front test (names a) (names_of l) t).1)
  where
    at : (q : Bool) → T (groups_ok test (names_of (limits_after b l))) → T (groups_ok test (names_of (cond q (limits_after b l) (a ∷ limits_after b l))))
    at true k = k
    at false k = named_both test (names a) (names_of (limits_after b l)) (named_front test (names a) (names_of l) t).0 k

-- where all limits are claimed, so are these
pub claimed_after : (b : ℕ) (ρ : Numbering) (c : C) (v : Sets) (l : List Formula) → Holds (with_limits ρ l c) v → Holds (with_limits ρ (limits_after b l) c) v
claimed_after b ρ c v [] h = h
claimed_after b ρ c v (a ∷ l) h = at (of_places b a) (claimed_after b ρ c v l h.1)
  where
    at : (t : Bool) → Holds (with_limits ρ (limits_after b l) c) v → Holds (with_limits ρ (cond t (limits_after b l) (a ∷ limits_after b l)) c) v
    at true k = k
    at false k = (h.0, k)
