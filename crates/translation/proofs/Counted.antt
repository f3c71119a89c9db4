-- What the claim says that a set has as many places as a remainder says.
use Rattle.std.proofs.Common.{◌≡◌, ℕ, Bool, true, false, ◌↔◌, List, ◌∷◌, sym, refl, ◌∙◌, subst, inl, inr}
use Rattle.words.specs.Words.{Sets}
use Rattle.kinds.specs.declared.multiple.Remainder.{Remainder}
use Rattle.claims.specs.Claims.{and1, some, multiple, Holds, has, put}
use Rattle.claims.proofs.PlacesLaws.{put_same}
use Rattle.formulas.specs.declared.name.Name.TheVariants.{OfGroup}
use Rattle.formulas.specs.declared.formula.Group.{Group}
use Rattle.formulas.specs.declared.formula.Group.TheVariants.{Named as group}
use Rattle.formulas.specs.declared.formula.Formula.TheVariants.{Count}
use Rattle.formulas.specs.Meaning.{Env, members, Meaning}
use Rattle.formulas.specs.Names.{names_group, Among}
use Rattle.translation.specs.Numbers.{Numbering, numbers, fresh}
use Rattle.translation.specs.Translation.{is_sure_in, is_in, set_within, within_set, is_set, claim}
use Rattle.translation.proofs.NumbersLaws.{fresh_free}
use Rattle.translation.proofs.Families.{Family, family_put, put_agree}
use Rattle.translation.proofs.Standing.{Stands, Stand, stand_agree}
use Rattle.translation.proofs.Terms.{fresh_head, fresh_tail, group_sure, group_says}
use Rattle.translation.proofs.Within.{named_set, set_says, each_says}
use Rattle.translation.proofs.HowMany.{multiple_says}

-- two tests that say the same
same_test : (a b : Bool) → (a ≡ true → b ≡ true) → (b ≡ true → a ≡ true) → a ≡ b
same_test true b f g = sym (f refl)
same_test false true f g = g refl
same_test false false f g = refl

-- every place of g is one of set n, which is the set u; k is neither n nor one of the numbers of g
within_set_says : (g : Group) (n : ℕ) (u : List Bool) (ρ : Numbering) (e : Env) (k : ℕ) (v : Sets) → Family v → ((i : ℕ) → v n i ≡ has u i) → (n ≡ k → ⊥) → Stand v ρ e (names_group g) → (Among k (numbers ρ (names_group g)) → ⊥) →
    Holds (within_set ρ g n k) v ↔ ((i : ℕ) → has (members g e) i ≡ true → has u i ≡ true)
within_set_says g n u ρ e k v f p r s d =
    each_says (is_sure_in g) (is_in g ρ k) (members g e) (group 0) (λ x. n) alone k v (group_sure g ρ k) f
    (λ x h. elim h [ inl q ↦ subst (Stands v n alone) (sym q) p | inr q ↦ absurd q ]) (λ a. elim a [ inl q ↦ r (sym q) | inr q ↦ q ])
    (λ t i ft a o. group_says g ρ e k i t ft (stand_agree k v t ρ e (names_group g) a d s) o)
  where
    -- every name of a set is u's
    alone : Env
    alone = record { places = λ x. 0; groups = λ x. u }

-- set m, tried for the set of g, has its places and no others, and as many as the remainder says
counted_other : (g : Group) (r : Remainder) (ρ : Numbering) (e : Env) (m k : ℕ) (v : Sets) → Family v → Stand v ρ e (names_group g) → (Among m (numbers ρ (names_group g)) → ⊥) → (m ≡ k → ⊥) → (Among k (numbers ρ (names_group g)) → ⊥) →
    Holds (some m (and1 (is_set ρ g m k) (multiple (record { remainder = r; set = m })))) v ↔ Meaning (Count g r) e
counted_other g r ρ e m k v f s d n l = (
  λ h. (let (u, p) = h in
      let w = parts u in
      let both : (i : ℕ) → put v m u m i ≡ has (members g e) i = λ i. put_same v m u i ∙ same_test (has u i) (has (members g e) i) ((w.0).0 p.0.0 i) ((w.1).0 p.0.1 i) in
      (multiple_says (record { remainder = r; set = m }) (put v m u) (members g e) both).0 p.1),
  λ h. (let u = members g e in
      let w = parts u in
      (u, (((w.0).1 (λ i q. q), (w.1).1 (λ i q. q)), (multiple_says (record { remainder = r; set = m }) (put v m u) u (λ i. put_same v m u i)).1 h))),
)
  where
    parts : (u : List Bool) →
        ((Holds (set_within ρ m g k) (put v m u) ↔ ((i : ℕ) → has u i ≡ true → has (members g e) i ≡ true))
        × (Holds (within_set ρ g m k) (put v m u) ↔ ((i : ℕ) → has (members g e) i ≡ true → has u i ≡ true)))
    parts u =
        let t = put v m u in
        let ft = family_put v m u f in
        let st = stand_agree m v t ρ e (names_group g) (put_agree v m u) d s in
        (set_says m u g ρ e k t ft (named_set t m u (λ i. put_same v m u i)) n st l, within_set_says g m u ρ e k t ft (λ i. put_same v m u i) n st l)

pub counted_says : (g : Group) (r : Remainder) (ρ : Numbering) (e : Env) (v : Sets) → Family v → Stand v ρ e (names_group g) → Holds (claim (Count g r) ρ) v ↔ Meaning (Count g r) e
counted_says (group x) r ρ e v f s = multiple_says (record { remainder = r; set = ρ (OfGroup x) }) v (e.groups x) (s (OfGroup x) (inl refl))
counted_says g r ρ e v f s =
    let l = numbers ρ (names_group g) in
    let m = fresh l in
    counted_other g r ρ e m (fresh (m ∷ l)) v f s (fresh_free l) (fresh_head m l) (fresh_tail m l)
