-- What formulas say of rows, by their claims: the names stand for the sets that they are to stand for.
use Rattle.std.proofs.Common.{◌≡◌, ℕ, zero, suc, ◌+◌, ◌-◌, ◌<◌, ◌≤◌, Bool, true, false, cond, ◌||◌, T, eqb, ltb, ◌⊎◌, ◌↔◌, List, [], ◌∷◌, length, map, sym, refl, ap, ◌∙◌, subst, inl, inr, arith, lt→ltb, ltb→lt}
use native.Mathlib.Decide.{dec_lt}
use mathlib.Core.Bool.{false≢true}
use Rattle.std.proofs.lemmas.Bool.Decides.{eqb_tells}
use Rattle.words.specs.Words.{Sets, Word, bit}
use Rattle.claims.specs.Claims.{has, C, Holds}
use Rattle.claims.proofs.FrontLaws.{both_passed, pass_both}
use Rattle.formulas.specs.declared.name.Name.{Name}
use Rattle.formulas.specs.declared.name.Name.TheVariants.{OfPlace, OfGroup}
use Rattle.formulas.specs.declared.formula.Formula.{Formula}
use Rattle.formulas.specs.Meaning.{Env}
use Rattle.formulas.specs.Names.{names}
use Rattle.translation.specs.Numbers.{Numbering, numbered}
use Rattle.translation.proofs.Families.{Family}
use Rattle.translation.proofs.Standing.{Stands, Stand, stand_left, stand_right}
use Rattle.translation.proofs.Connectives.{iff_not}
use Rattle.translation.proofs.Formulas.{says}
use Rattle.rows.specs.Rules.{Line}
use Rattle.rows.specs.RowClaims.{below, same_number, Gives}
use Rattle.rows.specs.Limits.{row_env, AllMean, names_of, groups_ok, bound, row_numbers, with_limits, limits_fail}
use Rattle.rows.specs.Faults.{member, unchanged, all_below, after_number}
use Rattle.rows.proofs.Bools.{bools}
use Rattle.rows.proofs.AfterLaws.{Has, has_or_not, has_below}
use Rattle.rows.proofs.NextLaws.{has_marks, known, passed_true, number_changed, number_same}

-- the sets that the names get
bound_above : (n : ℕ) (y : ℕ → ℕ) (ρ : Numbering) (x : ℕ) → n ≤ x → bound n y ρ (OfGroup x) ≡ ρ (OfGroup x)
bound_above zero y ρ x h = refl
bound_above (suc n) y ρ x h = elim (eqb_tells x n) [
  | inl e ↦ (let q = e.1 in let z : ⊥ = omega arith in absurd z)
  | inr e ↦ bound_above n y (numbered ρ (OfGroup n) (y n)) x (omega arith) ∙ ap (λ t. cond t (y n) (ρ (OfGroup x))) e.0
]

bound_number : (n : ℕ) (y : ℕ → ℕ) (ρ : Numbering) (x : ℕ) → x < n → bound n y ρ (OfGroup x) ≡ y x
bound_number zero y ρ x h = let z : ⊥ = omega arith in absurd z
bound_number (suc n) y ρ x h = elim (eqb_tells x n) [
  | inl e ↦ (let q = e.1 in bound_above n y (numbered ρ (OfGroup n) (y n)) x (omega arith) ∙ (ap (λ t. cond t (y n) (ρ (OfGroup x))) e.0 ∙ ap y (sym e.1)))
  | inr e ↦ (let q = e.1 in bound_number n y (numbered ρ (OfGroup n) (y n)) x (omega arith))
]

pub row_number : (b : ℕ) (y : ℕ → ℕ) (x : ℕ) → x < suc (b + b) → row_numbers b y (OfGroup x) ≡ y x
row_number b y x h = bound_number (suc (b + b)) y (λ x. 0) x h

pub number_row : (b : ℕ) (js : List ℕ) → T (all_below b js) → after_number b js b ≡ b
number_row b js h = elim (has_or_not js b) [ inl p ↦ (let z = ltb→lt b b (has_below b js h b p.0) in let f : ⊥ = omega arith in absurd f) | inr p ↦ number_same b js [] h b p.1 ]

-- the sets that the names mean
module _ (b : ℕ) (w u : Word) where
  abbrev groups : ℕ → List Bool
  groups x = cond (ltb x b) (map (bit x) w) (cond (eqb x b) (map (λ a. true) w) (map (bit (x - suc b)) u))

  group_low : (x : ℕ) → x < b → groups x ≡ map (bit x) w
  group_low x h = let e = passed_true (ltb x b) (lt→ltb x b h) in rw e refl

  not_low : (x : ℕ) → b ≤ x → ltb x b ≡ false
  not_low x h = at (ltb x b) refl
    where
      at : (t : Bool) → ltb x b ≡ t → ltb x b ≡ false
      at true e = let z = ltb→lt x b (subst T (sym e) tt) in let f : ⊥ = omega arith in absurd f
      at false e = e

  group_row : groups b ≡ map (λ a. true) w
  group_row =
      let e = not_low b (omega arith) in
      let d : eqb b b ≡ true = elim (eqb_tells b b) [ inl p ↦ p.0 | inr p ↦ absurd (p.1 refl) ] in
      rw (e, d) refl

  group_after : (x : ℕ) → b < x → groups x ≡ map (bit (x - suc b)) u
  group_after x h =
      let e = not_low x (omega arith) in
      let d : eqb x b ≡ false = elim (eqb_tells x b) [ inl p ↦ (let q = p.1 in let f : ⊥ = omega arith in absurd f) | inr p ↦ p.0 ] in
      rw (e, d) refl

has_all : (w : Word) (i : ℕ) → (has (map (λ a. true) w) i ≡ true) ↔ (i < length w)
has_all [] i = (λ e. absurd (false≢true e), λ l. (let z : ⊥ = omega arith in absurd z))
has_all (a ∷ w) zero = (λ e. omega arith, λ l. refl)
has_all (a ∷ w) (suc i) = let r = has_all w i in (λ e. (let z = r.0 e in omega arith), λ l. r.1 (omega arith))

-- names of such sets stand for what they mean
pub stand_groups : (test : ℕ → Bool) (z : Sets) (ρ : Numbering) (e : Env) → ((x : ℕ) → T (test x) → (i : ℕ) → z (ρ (OfGroup x)) i ≡ has (e.groups x) i) → (l : List Name) → T (groups_ok test l) → Stand z ρ e l
stand_groups test z ρ e h [] t x a = absurd a
stand_groups test z ρ e h (OfPlace y ∷ l) t x a = absurd t
stand_groups test z ρ e h (OfGroup y ∷ l) t x (inl d) = subst (λ n. Stands z (ρ n) e n) (sym d) (h y (both_passed (test y) (groups_ok test l) t).0)
stand_groups test z ρ e h (OfGroup y ∷ l) t x (inr c) = stand_groups test z ρ e h l (both_passed (test y) (groups_ok test l) t).1 x c

pub row_place : (b : ℕ) (ok : ℕ → Bool) (y : ℕ → ℕ) (z : Sets) (w : Word) → Gives b ok y z w → (u : Word) (i : ℕ) → z b i ≡ has ((row_env b w u).groups b) i
row_place b ok y z w g u i =
    bools (z b i) (has (map (λ a. true) w) i) (λ e. (has_all w i).1 ((g.places i).0 e)) (λ e. (g.places i).1 ((has_all w i).0 e)) ∙ ap (λ t. has t i) (sym (group_row b w u))

-- a row, and limits of it
module _ (b : ℕ) (ok : ℕ → Bool) (y : ℕ → ℕ) (z : Sets) (w : Word) (f : Family z) (g : Gives b ok y z w) (low : (x : ℕ) → T (ok x) → x < b) (own : y b ≡ b) where
  abbrev ρ : Numbering
  ρ = row_numbers b y

  abbrev e : Env
  e = row_env b w w

  name_stands : (x : ℕ) (i : ℕ) → ((eqb x b ≡ true) × (x ≡ b)) ⊎ ((eqb x b ≡ false) × (x ≡ b → ⊥)) → T (eqb x b || ok x) → z (ρ (OfGroup x)) i ≡ has (e.groups x) i
  name_stands x i (inl p) t = subst (λ x. z (ρ (OfGroup x)) i ≡ has (e.groups x) i) (sym p.1) (ap (λ n. z n i) (row_number b y b (omega arith) ∙ own) ∙ row_place b ok y z w g w i)
  name_stands x i (inr p) t =
      let k : T (ok x) = rw p.0 at t in
      let l = low x k in
      ap (λ n. z n i) (row_number b y x (omega arith)) ∙ (g.bits x i k ∙ (sym (has_marks x w i) ∙ ap (λ t. has t i) (sym (group_low b w w x l))))

  stand_row : (l : List Formula) → T (groups_ok (λ x. eqb x b || ok x) (names_of l)) → Stand z ρ e (names_of l)
  stand_row l t = stand_groups (λ x. eqb x b || ok x) z ρ e (λ x k i. name_stands x i (eqb_tells x b) k) (names_of l) t

  all_say : (l : List Formula) (c : C) {P : Type 0} → Stand z ρ e (names_of l) → Holds c z ↔ P → Holds (with_limits ρ l c) z ↔ (P × AllMean l e)
  all_say [] c s h = (λ q. (h.0 q, tt), λ q. h.1 q.0)
  all_say (a ∷ l) c s h =
      let m = says a ρ e z f (stand_left z ρ e (names a) (names_of l) s) in
      let r = all_say l c (stand_right z ρ e (names a) (names_of l) s) h in
      (λ q. ((r.0 q.1).0, (m.0 q.0, (r.0 q.1).1)), λ q. (m.1 q.1.0, r.1 (q.0, q.1.1)))

  pub with_limits_says : (l : List Formula) → T (groups_ok (λ x. eqb x b || ok x) (names_of l)) → (c : C) {P : Type 0} → Holds c z ↔ P → Holds (with_limits ρ l c) z ↔ (P × AllMean l e)
  with_limits_says l t c h = all_say l c (stand_row l t) h

  pub limits_fail_says : (l : List Formula) → T (groups_ok (λ x. eqb x b || ok x) (names_of l)) → (c d : C) {P : Type 0} → Holds c z ↔ P → Holds d z ↔ (P → ⊥) → Holds (limits_fail ρ l c d) z ↔ (P × AllMean l e → ⊥)
  limits_fail_says [] t c d h k = (λ q p. k.0 q p.0, λ n. k.1 (λ p. n (p, tt)))
  limits_fail_says (a ∷ l) t c d h k = iff_not (with_limits_says (a ∷ l) t c h)

-- a row and the row after it, of which the bits js are sets of their own
pub stand_next : (b : ℕ) (js : List ℕ) (R : List Line) → T (all_below b js) → (z : Sets) (w u : Word) → Gives b (below b) same_number z w → Gives b (known b js R) (after_number b js) z u → (l : List Name) →
    T (groups_ok (λ x. ltb x (suc b) || member js (x - suc b)) l) → Stand z (row_numbers b same_number) (row_env b w u) l
stand_next b js R h z w u gw gu l t = stand_groups (λ x. ltb x (suc b) || member js (x - suc b)) z ρ e (λ x k i. at x i k (dec_lt x b) (dec_lt b x)) l t
  where
    ρ : Numbering
    ρ = row_numbers b same_number

    e : Env
    e = row_env b w u

    at : (x i : ℕ) → T (ltb x (suc b) || member js (x - suc b)) → Dec (x < b) → Dec (b < x) → z (ρ (OfGroup x)) i ≡ has (e.groups x) i
    at x i k (yes s) d = ap (λ n. z n i) (row_number b same_number x (omega arith)) ∙ (gw.bits x i (lt→ltb x b s) ∙ (sym (has_marks x w i) ∙ ap (λ t. has t i) (sym (group_low b w u x s))))
    at x i k (no s) (no d) =
        let q : b ≡ x = omega arith in
        subst (λ x. z (ρ (OfGroup x)) i ≡ has (e.groups x) i) q (ap (λ n. z n i) (row_number b same_number b (omega arith)) ∙ row_place b (below b) same_number z w gw u i)
    at x i k (no s) (yes d) = after (x - suc b) (has_or_not js (x - suc b)) (omega arith) k
      where
        after : (j : ℕ) → (Has j js × (member js j ≡ true)) ⊎ ((Has j js → ⊥) × (member js j ≡ false)) → x ≡ suc b + j → T (ltb x (suc b) || member js j) → z (ρ (OfGroup x)) i ≡ has (e.groups x) i
        after j (inr p) q k = let m : T (ltb x (suc b) || false) = rw p.1 at k in absurd (high (ltb x (suc b)) refl m)
          where
            high : (t : Bool) → ltb x (suc b) ≡ t → T (t || false) → ⊥
            high true c m = let l = ltb→lt x (suc b) (subst T (sym c) tt) in omega arith
            high false c m = m
        after j (inl p) q k =
            let low = has_below b js h j p.0 in
            let l = ltb→lt j b low in
            let c : x - suc b ≡ j = omega arith in
            let t : T (known b js R j) = pass_both (ltb j b) (member js j || unchanged R j) low (subst (λ m. T (m || unchanged R j)) (sym p.1) tt) in
            ap (λ n. z n i) (row_number b same_number x (omega arith) ∙ (q ∙ sym (number_changed b js R h j p.0)))
            ∙ (gu.bits j i t ∙ (sym (has_marks j u i) ∙ (ap (λ m. has (map (bit m) u) i) (sym c) ∙ ap (λ t. has t i) (sym (group_after b w u x d)))))
