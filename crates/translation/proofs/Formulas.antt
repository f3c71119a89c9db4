-- The claim that is made of a formula holds exactly if the formula does.
use Rattle.std.proofs.Common.{◌≡◌, ℕ, ◌<◌, Bool, true, false, not, Option, Some, None, ◌↔◌, List, ◌∷◌, ◌++◌, sym, refl, ◌∙◌, subst, inl, inr}
use Rattle.words.specs.Words.{Sets, Word, sets}
use Rattle.claims.specs.Claims.{C, within, and1, some, before, Holds, Of, has, put}
use Rattle.kinds.specs.Relations.{Only}
use Rattle.claims.specs.Places.{one}
use Rattle.claims.proofs.PlacesLaws.{put_same, only_one}
use Rattle.kinds.specs.declared.relation.Relation.{Relation}
use Rattle.formulas.specs.declared.name.Name.TheVariants.{OfPlace, OfGroup}
use Rattle.formulas.specs.declared.formula.Place.{Place}
use Rattle.formulas.specs.declared.formula.Group.{Group}
use Rattle.formulas.specs.declared.formula.Formula.{Formula}
use Rattle.formulas.specs.declared.formula.Place.TheVariants.{Named as place}
use Rattle.formulas.specs.declared.formula.Formula.TheVariants.{True, Same, Less, In, Sub, Count, Not', And', Or', Implies', Some1', All1', Some2', All2'}
use Rattle.formulas.specs.Meaning.{Env, with_place, with_group, value, members, Meaning}
use Rattle.formulas.specs.Names.{names_place, names_group, names, without, Among}
use Rattle.formulas.proofs.NamesLaws.{among_left}
use Rattle.translation.specs.Numbers.{Numbering, numbered, numbers, fresh}
use Rattle.translation.specs.Translation.{some_place, is_sure, is_sure_in, sure, about, is_place, is_in, relation_or, claim_as, claim}
use Rattle.translation.specs.OnePlace.{relation_of}
use Rattle.translation.proofs.NumbersLaws.{among_part, fresh_free}
use Rattle.translation.proofs.Opened.{within_itself}
use Rattle.translation.proofs.Families.{Family, Agree, family_put, put_agree, only_agree}
use Rattle.translation.proofs.Standing.{Stand, stand_left, stand_right, stand_agree, stand_bind, place_other, group_other, place_here, group_here}
use Rattle.translation.proofs.Connectives.{before_says, iff_trans, iff_and, Sure, some_place_says, Said, dec_of, signed_says, not_said, either_says, implies_says, all_says}
use Rattle.translation.proofs.Terms.{fresh_head, fresh_tail, about_says, place_sure, group_sure, before_first, before_second, place_says, group_says}
use Rattle.translation.proofs.OnePlaceLaws.{relation_of_says}
use Rattle.translation.proofs.Sureness.{about_sure, bound_sure}
use Rattle.translation.proofs.Within.{within_says}
use Rattle.translation.proofs.Counted.{counted_says}

same_other : (p q : Place) (ρ : Numbering) (e : Env) (m : ℕ) (v : Sets) → Family v → Stand v ρ e (names_place p ++ names_place q) → (Among m (numbers ρ (names_place p ++ names_place q)) → ⊥) →
    Holds (about ρ q m (is_place q ρ m) (is_sure p) (λ b. is_place p ρ b)) v ↔ (value p e ≡ value q e)
same_other p q ρ e m v f s d =
    let k = names_place p in let l = names_place q in
    let on : (t : Sets) → Agree m v t → Stand t ρ e (k ++ l) = λ t a. stand_agree m v t ρ e (k ++ l) a d s in
    about_says q ρ e m (is_place q ρ m) (is_sure p) (λ b. is_place p ρ b) v (λ j. value p e ≡ j) (place_sure q ρ m) (place_sure p ρ m) f (stand_right v ρ e k l s)
    (λ t i ft a o. place_says q ρ e m i t ft (stand_right t ρ e k l (on t a)) o)
    (λ t b i ft a r o. place_says p ρ e b i t ft (stand_left t ρ e k l (on t a)) o)

same_says : (p q : Place) (ρ : Numbering) (e : Env) (v : Sets) → Family v → Stand v ρ e (names_place p ++ names_place q) → Holds (claim (Same p q) ρ) v ↔ (value p e ≡ value q e)
same_says (place x) q ρ e v f s =
    let r = place_says q ρ e (ρ (OfPlace x)) (e.places x) v f (λ y h. s y (inr h)) (s (OfPlace x) (inl refl)) in
    (λ h. sym (r.0 h), λ h. r.1 (sym h))
same_says p q ρ e v f s = let l = numbers ρ (names_place p ++ names_place q) in same_other p q ρ e (fresh l) v f s (fresh_free l)

less_says : (p q : Place) (ρ : Numbering) (e : Env) (v : Sets) → Family v → Stand v ρ e (names_place p ++ names_place q) → Holds (claim (Less p q) ρ) v ↔ (value p e < value q e)
less_says p q ρ e v f s =
    let k = names_place p in let l = names_place q in
    let m = fresh (numbers ρ (k ++ l)) in
    let n = fresh (m ∷ numbers ρ (k ++ l)) in
    let on : (t : Sets) → Agree m v t → Stand t ρ e (k ++ l) = λ t a. stand_agree m v t ρ e (k ++ l) a (fresh_free (numbers ρ (k ++ l))) s in
    let apart : (b : ℕ) → Among b (m ∷ numbers ρ k) → b ≡ n → ⊥ = λ b r z. elim r [
      | inl x ↦ fresh_head m (numbers ρ (k ++ l)) (sym x ∙ z)
      | inr x ↦ fresh_tail m (numbers ρ (k ++ l)) (subst (λ y. Among y (numbers ρ (k ++ l))) z (among_part ρ b k (k ++ l) (λ y g. among_left y k l g) x))
    ] in
    let inner = λ (a : ℕ). about ρ q n (is_place q ρ n) true (λ b. before a b) in
    let sure_m : Sure m (inner m) = about_sure q ρ n m (is_place q ρ n) true (λ b. before m b) (fresh_head m (numbers ρ (k ++ l))) (λ b. before_first m b) in
    about_says p ρ e m (is_place p ρ m) true inner v (λ i. i < value q e) (place_sure p ρ m) (λ z. sure_m) f (stand_left v ρ e k l s)
    (λ t i ft a o. place_says p ρ e m i t ft (stand_left t ρ e k l (on t a)) o)
    (λ t b i ft a r o. about_says q ρ e n (is_place q ρ n) true (λ d. before b d) t (λ j. i < j) (place_sure q ρ n) (λ z. before_second b n) ft (stand_right t ρ e k l (on t a))
    (λ t' j ft' a' o'. place_says q ρ e n j t' ft' (stand_right t' ρ e k l (stand_agree n t t' ρ e (k ++ l) a' (fresh_tail m (numbers ρ (k ++ l))) (on t a))) o')
    (λ t' d j ft' a' r' o'. before_says t' b d i j (only_agree n b i t t' a' (apart b r) o) o'))

in_says : (p : Place) (g : Group) (ρ : Numbering) (e : Env) (v : Sets) → Family v → Stand v ρ e (names_place p ++ names_group g) → Holds (claim (In p g) ρ) v ↔ (has (members g e) (value p e) ≡ true)
in_says p g ρ e v f s =
    let k = names_place p in let l = names_group g in
    let m = fresh (numbers ρ (k ++ l)) in
    let on : (t : Sets) → Agree m v t → Stand t ρ e (k ++ l) = λ t a. stand_agree m v t ρ e (k ++ l) a (fresh_free (numbers ρ (k ++ l))) s in
    about_says p ρ e m (is_place p ρ m) (is_sure_in g) (λ b. is_in g ρ b) v (λ j. has (members g e) j ≡ true) (place_sure p ρ m) (group_sure g ρ m) f (stand_left v ρ e k l s)
    (λ t i ft a o. place_says p ρ e m i t ft (stand_left t ρ e k l (on t a)) o)
    (λ t b i ft a r o. group_says g ρ e b i t ft (stand_right t ρ e k l (on t a)) o)

-- there is a place of which the formula holds, whether that is a relation or not
relation_or_says : (p : Option Relation) (a : Formula) (x : ℕ) (ρ : Numbering) (e : Env) (c : C) (v : Sets) → relation_of x a ≡ p → Stand v ρ e (without (OfPlace x) (names a)) →
    Holds c v ↔ ((i : ℕ) × Meaning a (with_place e x i)) → Holds (relation_or p ρ c) v ↔ ((i : ℕ) × Meaning a (with_place e x i))
relation_or_says None a x ρ e c v q s h = h
relation_or_says (Some k) a x ρ e c v q s h = relation_of_says x a k ρ e v q s

-- where the sets stand for the formula's names: the claim is the formula, that of its opposite the opposite
says_as : (a : Formula) (b : Bool) (ρ : Numbering) (e : Env) (v : Sets) → Family v → Stand v ρ e (names a) → Holds (claim_as a b ρ) v ↔ Said b (Meaning a e)
says_as True b ρ e v f s = signed_says b (within 0 0) v (λ h. tt, λ h. within_itself 0 v)
says_as (Same p q) b ρ e v f s = signed_says b (claim (Same p q) ρ) v (same_says p q ρ e v f s)
says_as (Less p q) b ρ e v f s = signed_says b (claim (Less p q) ρ) v (less_says p q ρ e v f s)
says_as (In p g) b ρ e v f s = signed_says b (claim (In p g) ρ) v (in_says p g ρ e v f s)
says_as (Sub g h) b ρ e v f s = let l = names_group g ++ names_group h in signed_says b (claim (Sub g h) ρ) v (within_says g h ρ e (fresh (numbers ρ l)) v f s (fresh_free (numbers ρ l)))
says_as (Count g r) b ρ e v f s = signed_says b (claim (Count g r) ρ) v (counted_says g r ρ e v f s)
says_as (Not' _ a) b ρ e v f s = iff_trans (says_as a (not b) ρ e v f s) (not_said b (dec_of (claim_as a true ρ) v f (says_as a true ρ e v f s)))
says_as (And' _ a _ c) b ρ e v f s =
    signed_says b (and1 (claim_as a true ρ) (claim_as c true ρ)) v
    (iff_and (says_as a true ρ e v f (stand_left v ρ e (names a) (names c) s)) (says_as c true ρ e v f (stand_right v ρ e (names a) (names c) s)))
says_as (Or' _ a _ c) b ρ e v f s =
    let l = stand_left v ρ e (names a) (names c) s in let r = stand_right v ρ e (names a) (names c) s in
    either_says b (claim_as a false ρ) (claim_as c false ρ) v (says_as a false ρ e v f l) (says_as c false ρ e v f r)
    (dec_of (claim_as a true ρ) v f (says_as a true ρ e v f l)) (dec_of (claim_as c true ρ) v f (says_as c true ρ e v f r))
says_as (Implies' _ a _ c) b ρ e v f s =
    let l = stand_left v ρ e (names a) (names c) s in let r = stand_right v ρ e (names a) (names c) s in
    implies_says b (claim_as a true ρ) (claim_as c false ρ) v (says_as a true ρ e v f l) (says_as c false ρ e v f r)
    (dec_of (claim_as a true ρ) v f (says_as a true ρ e v f l)) (dec_of (claim_as c true ρ) v f (says_as c true ρ e v f r))
says_as (Some1' x _ a) b ρ e v f s =
    let m = fresh (numbers ρ (without (OfPlace x) (names a))) in
    let c = claim_as a true (numbered ρ (OfPlace x) m) in
    signed_says b (relation_or (relation_of x a) ρ (some_place (sure a true x) m c)) v (relation_or_says (relation_of x a) a x ρ e (some_place (sure a true x) m c) v refl s
    (some_place_says (sure a true x) m c v (λ i. Meaning a (with_place e x i)) (bound_sure a true x m ρ) f (λ t i ft g o.
    says_as a true (numbered ρ (OfPlace x) m) (with_place e x i) t ft (stand_bind (OfPlace x) v t ρ e (with_place e x i) (names a) g (place_other x i t e) (place_here x i m t e o) s))))
says_as (All1' x _ a) b ρ e v f s =
    let m = fresh (numbers ρ (without (OfPlace x) (names a))) in
    let c = claim_as a false (numbered ρ (OfPlace x) m) in
    let at : (d : Bool) (t : Sets) (i : ℕ) → Family t → Agree m v t → Only t m i → Holds (claim_as a d (numbered ρ (OfPlace x) m)) t ↔ Said d (Meaning a (with_place e x i)) = λ d t i ft g o.
    says_as a d (numbered ρ (OfPlace x) m) (with_place e x i) t ft (stand_bind (OfPlace x) v t ρ e (with_place e x i) (names a) g (place_other x i t e) (place_here x i m t e o) s) in
    all_says b (some_place (sure a false x) m c) v (λ i. Meaning a (with_place e x i)) f
    (some_place_says (sure a false x) m c v (λ i. Meaning a (with_place e x i) → ⊥) (bound_sure a false x m ρ) f (λ t i ft g o. at false t i ft g o))
    (λ i. (let t = put v m (one i) in let ft = family_put v m (one i) f in dec_of (claim_as a true (numbered ρ (OfPlace x) m)) t ft (at true t i ft (put_agree v m (one i)) (only_one v m i))))
says_as (Some2' x _ a) b ρ e v f s =
    let m = fresh (numbers ρ (without (OfGroup x) (names a))) in
    let c = claim_as a true (numbered ρ (OfGroup x) m) in
    let at : (u : List Bool) → Holds c (put v m u) ↔ Meaning a (with_group e x u) = λ u.
    says_as a true (numbered ρ (OfGroup x) m) (with_group e x u) (put v m u) (family_put v m u f)
    (stand_bind (OfGroup x) v (put v m u) ρ e (with_group e x u) (names a) (put_agree v m u) (group_other x u (put v m u) e) (group_here x m u (put v m u) e (put_same v m u)) s) in
    signed_says b (some m c) v (λ h. (h.0, (at h.0).0 h.1), λ h. (h.0, (at h.0).1 h.1))
says_as (All2' x _ a) b ρ e v f s =
    let m = fresh (numbers ρ (without (OfGroup x) (names a))) in
    let c = claim_as a false (numbered ρ (OfGroup x) m) in
    let at : (d : Bool) (u : List Bool) → Holds (claim_as a d (numbered ρ (OfGroup x) m)) (put v m u) ↔ Said d (Meaning a (with_group e x u)) = λ d u.
    says_as a d (numbered ρ (OfGroup x) m) (with_group e x u) (put v m u) (family_put v m u f)
    (stand_bind (OfGroup x) v (put v m u) ρ e (with_group e x u) (names a) (put_agree v m u) (group_other x u (put v m u) e) (group_here x m u (put v m u) e (put_same v m u)) s) in
    all_says b (some m c) v (λ u. Meaning a (with_group e x u)) f (λ h. (h.0, (at false h.0).0 h.1), λ h. (h.0, (at false h.0).1 h.1))
    (λ u. dec_of (claim_as a true (numbered ρ (OfGroup x) m)) (put v m u) (family_put v m u f) (at true u))

pub says : (a : Formula) (ρ : Numbering) (e : Env) (v : Sets) → Family v → Stand v ρ e (names a) → Holds (claim a ρ) v ↔ Meaning a e
says a ρ e v f s = says_as a true ρ e v f s

pub of_words : (a : Formula) (ρ : Numbering) (e : Env) (w : Word) → Stand (sets w) ρ e (names a) → Of (claim a ρ) w ↔ Meaning a e
of_words a ρ e w s = says a ρ e (sets w) (w, refl) s
