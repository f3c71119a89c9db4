-- Names of sets that a formula about a row may have, and those of which the row after tells.
use Rattle.std.proofs.Common.{◌≡◌, ℕ, suc, true, false, ◌||◌, T, eqb, ltb, ◌⊎◌, List, [], ◌∷◌, inl, inr, arith, lt→ltb, ltb→lt}
use Rattle.std.proofs.lemmas.Bool.Decides.{eqb_tells}
use Rattle.claims.proofs.FrontLaws.{both_passed, pass_both}
use Rattle.formulas.specs.declared.name.Name.{Name}
use Rattle.formulas.specs.declared.name.Name.TheVariants.{OfPlace, OfGroup}
use Rattle.rows.specs.Rules.{Line}
use Rattle.rows.specs.RowClaims.{below}
use Rattle.rows.specs.Limits.{groups_ok}
use Rattle.rows.specs.Faults.{member, unchanged}
use Rattle.rows.proofs.NextLaws.{known}

module _ (b : ℕ) where
  -- the bits of a module and the row's places
  pub named_row : (l : List Name) → T (groups_ok (λ x. ltb x (suc b)) l) → T (groups_ok (λ x. eqb x b || below b x) l)
  named_row [] h = tt
  named_row (OfPlace x ∷ l) h = absurd h
  named_row (OfGroup x ∷ l) h =
      let (p, q) = both_passed (ltb x (suc b)) (groups_ok (λ x. ltb x (suc b)) l) h in
      pass_both (eqb x b || below b x) (groups_ok (λ x. eqb x b || below b x) l) (one (eqb_tells x b) p) (named_row l q)
    where
      one : ((eqb x b ≡ true) × (x ≡ b)) ⊎ ((eqb x b ≡ false) × (x ≡ b → ⊥)) → T (ltb x (suc b)) → T (eqb x b || below b x)
      one (inl e) p = rw e.0 tt
      one (inr e) p = let d = e.1 in rw e.0 (lt→ltb x b (let z = ltb→lt x (suc b) p in omega arith))

  -- the bits of the row after, where js are sets of their own and the table R changes no others
  module _ (js : List ℕ) (R : List Line) where
    pub named_known : (l : List Name) → T (groups_ok (λ x. ltb x (suc b)) l) → T (groups_ok (λ x. eqb x b || (member js x || unchanged R x)) l) → T (groups_ok (λ x. eqb x b || known b js R x) l)
    named_known [] h g = tt
    named_known (OfPlace x ∷ l) h g = absurd h
    named_known (OfGroup x ∷ l) h g =
        let (p, q) = both_passed (ltb x (suc b)) (groups_ok (λ x. ltb x (suc b)) l) h in
        let (s, t) = both_passed (eqb x b || (member js x || unchanged R x)) (groups_ok (λ x. eqb x b || (member js x || unchanged R x)) l) g in
        pass_both (eqb x b || known b js R x) (groups_ok (λ x. eqb x b || known b js R x) l) (one (eqb_tells x b) p s) (named_known l q t)
      where
        one : ((eqb x b ≡ true) × (x ≡ b)) ⊎ ((eqb x b ≡ false) × (x ≡ b → ⊥)) → T (ltb x (suc b)) → T (eqb x b || (member js x || unchanged R x)) → T (eqb x b || known b js R x)
        one (inl e) p s = rw e.0 tt
        one (inr e) p s =
            let d = e.1 in
            let m : T (member js x || unchanged R x) = rw e.0 at s in
            rw e.0 (pass_both (ltb x b) (member js x || unchanged R x) (lt→ltb x b (let z = ltb→lt x (suc b) p in omega arith)) m)
