-- What is judged of a formula: that its places are places and that it holds of what the word says.
use Rattle.std.proofs.Common.{◌≡◌, ℕ, zero, suc, Bool, true, false, cond, ◌↔◌, List, [], ◌∷◌, map, sym, refl, ◌∙◌, subst, inl, inr, arith}
use Rattle.words.specs.Words.{Sets, Word, sets, bit}
use Rattle.claims.specs.Claims.{C, and1, single, Holds, Of, has}
use Rattle.kinds.specs.Relations.{Only}
use Rattle.formulas.specs.declared.name.Name.{Name}
use Rattle.formulas.specs.declared.name.Name.TheVariants.{OfPlace, OfGroup}
use Rattle.formulas.specs.declared.formula.Formula.{Formula}
use Rattle.formulas.specs.Sets.{lowest}
use Rattle.formulas.specs.Meaning.{Meaning}
use Rattle.formulas.proofs.SetsLaws.{lowest_says}
use Rattle.translation.specs.Numbers.{Numbering}
use Rattle.translation.specs.Translation.{sure, claim}
use Rattle.translation.specs.Settles.{singles, Singles, env_of, Settles}
use Rattle.translation.proofs.Opened.{single_holds}
use Rattle.translation.proofs.Families.{Family}
use Rattle.translation.proofs.Standing.{Stand}
use Rattle.translation.proofs.Sureness.{name_apart, sure_says}
use Rattle.translation.proofs.Formulas.{of_words}

has_sets : (x : ℕ) (v : Word) (i : ℕ) → has (map (bit x) v) i ≡ sets v x i
has_sets x [] i = refl
has_sets x (a ∷ v) zero = refl
has_sets x (a ∷ v) (suc i) = has_sets x v i

only_lowest : (x i : ℕ) (w : Word) → Only (sets w) x i → lowest (map (bit x) w) ≡ i
only_lowest x i w o = (lowest_says (map (bit x) w) i).0
    (inl (has_sets x w i ∙ o.0, λ p. (let e = o.1 p.0 (sym (has_sets x w p.0) ∙ p.1.1) in let l = p.1.0 in omega arith)))

pub stand_of : (ρ : Numbering) (l : List Name) (w : Word) → Singles ρ l (sets w) → Stand (sets w) ρ (env_of ρ w) l
stand_of ρ l w s (OfPlace x) h = let (i, o) = s x h in subst (Only (sets w) (ρ (OfPlace x))) (sym (only_lowest (ρ (OfPlace x)) i w o)) o
stand_of ρ l w s (OfGroup x) h = λ i. sym (has_sets (ρ (OfGroup x)) w i)

name_place : {x y : ℕ} → OfPlace x ≡ OfPlace y → x ≡ y
name_place e = cc

-- c says at least what the claim of a does
pub singles_says : (ρ : Numbering) (a : Formula) (l : List Name) (c : C) (v : Sets) → Family v → (Holds c v → Holds (claim a ρ) v) → Holds (singles ρ a l c) v ↔ (Singles ρ l v × Holds c v)
singles_says ρ a [] c v f g = (λ h. (λ x a. absurd a, h), λ h. h.1)
singles_says ρ a (OfPlace y ∷ l) c v f g = at (λ d k. singles_says ρ a l d v f k) (sure a true y) refl
  where
    all : ((i : ℕ) × Only v (ρ (OfPlace y)) i) → Singles ρ l v → Singles ρ (OfPlace y ∷ l) v
    all o s x h = elim h [ inl e ↦ subst (λ z. (i : ℕ) × Only v (ρ (OfPlace z)) i) (sym (name_place e)) o | inr b ↦ s x b ]

    at : ((d : C) → (Holds d v → Holds (claim a ρ) v) → Holds (singles ρ a l d) v ↔ (Singles ρ l v × Holds d v)) → (b : Bool) → sure a true y ≡ b → Holds (singles ρ a l (cond b c (and1 (single (ρ (OfPlace y))) c))) v ↔ (Singles ρ (OfPlace y ∷ l) v × Holds c v)
    at all_of true q =
        let r = all_of c g in (
          λ h. (let p = r.0 h in (all ((sure_says a true y ρ q).place v f (g p.1)) p.0, p.1)),
          λ h. r.1 (λ x b. h.0 x (inr b), h.1),
        )
    at all_of false q =
        let r = all_of (and1 (single (ρ (OfPlace y))) c) (λ h. g h.1) in (
          λ h. (let p = r.0 h in (all ((single_holds (ρ (OfPlace y)) v).0 p.1.0) p.0, p.1.1)),
          λ h. r.1 (λ x b. h.0 x (inr b), ((single_holds (ρ (OfPlace y)) v).1 (h.0 y (inl refl)), h.1)),
        )
singles_says ρ a (OfGroup y ∷ l) c v f g =
    let r = singles_says ρ a l c v f g in (
      λ h. (let q = r.0 h in (λ x b. elim b [ inl e ↦ absurd (name_apart e) | inr k ↦ q.0 x k ], q.1)),
      λ h. r.1 (λ x b. h.0 x (inr b), h.1),
    )

pub settles : Settles
settles a ρ l w covers =
    let r = singles_says ρ a l (claim a ρ) (sets w) (w, refl) (λ h. h) in
    let m : Singles ρ l (sets w) → Of (claim a ρ) w ↔ Meaning a (env_of ρ w) = λ s. of_words a ρ (env_of ρ w) w (λ x h. stand_of ρ l w s x (covers x h)) in
    (λ h. (let (s, c) = r.0 h in (s, (m s).0 c)), λ h. r.1 (h.0, (m h.0).1 h.1))
