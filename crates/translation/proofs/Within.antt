-- What the claims say that a set is within another.
use Rattle.std.proofs.Common.{◌≡◌, ℕ, Bool, true, ◌&&◌, ◌||◌, ◌↔◌, List, [], ◌++◌, sym, refl, ◌∙◌, inl, inr}
use mathlib.Core.Bool.{false≢true}
use Rattle.words.specs.Words.{Sets}
use Rattle.claims.specs.Claims.{C, within, and1, not1, Holds, has, put}
use Rattle.kinds.specs.Relations.{Only}
use Rattle.claims.specs.Places.{one}
use Rattle.claims.proofs.PlacesLaws.{put_same}
use Rattle.formulas.specs.declared.name.Name.{Name}
use Rattle.formulas.specs.declared.name.Name.TheVariants.{OfPlace, OfGroup}
use Rattle.formulas.specs.declared.formula.Place.TheVariants.{Named as place}
use Rattle.formulas.specs.declared.formula.Group.{Group}
use Rattle.formulas.specs.declared.formula.Group.TheVariants.{Named as group, Empty, Only', Union', Inter'}
use Rattle.formulas.specs.declared.formula.Formula.TheVariants.{Sub}
use Rattle.formulas.specs.Sets.{mix}
use Rattle.formulas.specs.Meaning.{Env, members, Meaning}
use Rattle.formulas.specs.Names.{names_group, Among}
use Rattle.formulas.proofs.NamesLaws.{among_left, among_right, among_either}
use Rattle.formulas.proofs.SetsLaws.{true_stable, mix_has, or_true, and_true, one_says}
use Rattle.translation.specs.Numbers.{Numbering, numbers}
use Rattle.translation.specs.Translation.{lies, is_sure_in, is_in, each_in, set_within, is_within}
use Rattle.translation.proofs.NumbersLaws.{among_part}
use Rattle.translation.proofs.Opened.{within_holds, within_itself}
use Rattle.translation.proofs.Families.{Family, Agree, put_agree}
use Rattle.translation.proofs.Standing.{Stand, stand_left, stand_right, stand_agree}
use Rattle.translation.proofs.Connectives.{at_says, lies_says, iff_trans, iff_not, iff_and, Sure, sure_left, some_place_says}
use Rattle.translation.proofs.Terms.{lies_sure, group_sure, group_says}

-- set n is the set u
abbrev pub IsSet : Sets → ℕ → List Bool → Type 0
IsSet v n u = (i : ℕ) → (v n i ≡ true) ↔ (has u i ≡ true)

pub named_set : (v : Sets) (n : ℕ) (u : List Bool) → ((i : ℕ) → v n i ≡ has u i) → IsSet v n u
named_set v n u s i = (λ h. sym (s i) ∙ h, λ h. s i ∙ h)

named_place : (v : Sets) (n i : ℕ) → Only v n i → IsSet v n (one i)
named_place v n i o j = iff_trans (at_says v n j i o) (one_says i j)

within_sets : (v : Sets) (n k : ℕ) (u w : List Bool) → IsSet v n u → IsSet v k w → Holds (within n k) v ↔ ((i : ℕ) → has u i ≡ true → has w i ≡ true)
within_sets v n k u w p q = let l = within_holds n k v in (λ h i g. (q i).0 (l.0 h i ((p i).1 g)), λ h. l.1 (λ i g. (q i).1 (h i ((p i).0 g))))

first_of : (k l n : List Name) (y : Name) → Among y (k ++ n) → Among y ((k ++ l) ++ n)
first_of k l n y h = elim (among_either y k n h) [ inl g ↦ among_left y (k ++ l) n (among_left y k l g) | inr g ↦ among_right y (k ++ l) n g ]

second_of : (k l n : List Name) (y : Name) → Among y (l ++ n) → Among y ((k ++ l) ++ n)
second_of k l n y h = elim (among_either y l n h) [ inl g ↦ among_left y (k ++ l) n (among_right y k l g) | inr g ↦ among_right y (k ++ l) n g ]

-- m is none of the numbers of h; the claim c says of a place, as set m, that it is in the set u
pub each_says : (b : Bool) (c : C) (u : List Bool) (h : Group) (ρ : Numbering) (e : Env) (m : ℕ) (v : Sets) → (b ≡ true → Sure m c) → Family v → Stand v ρ e (names_group h) → (Among m (numbers ρ (names_group h)) → ⊥) →
    ((t : Sets) (i : ℕ) → Family t → Agree m v t → Only t m i → Holds c t ↔ (has u i ≡ true)) →
    Holds (each_in ρ b c h m) v ↔ ((i : ℕ) → has u i ≡ true → has (members h e) i ≡ true)
each_says b c u h ρ e m v sure f s d k =
    iff_trans
    (iff_not (some_place_says b m (and1 c (not1 (is_in h ρ m))) v (λ i. (has u i ≡ true) × (has (members h e) i ≡ true → ⊥)) (λ q. sure_left (not1 (is_in h ρ m)) (sure q)) f
    (λ t i ft a o. iff_and (k t i ft a o) (iff_not (group_says h ρ e m i t ft (stand_agree m v t ρ e (names_group h) a d s) o)))))
    (λ n i x. true_stable (has (members h e) i) (λ y. n (i, (x, y))), λ r z. z.1.1 (r z.0 z.1.0))

inter_within : (u w z : List Bool) → (((i : ℕ) → has u i ≡ true → has w i ≡ true) × ((i : ℕ) → has u i ≡ true → has z i ≡ true)) ↔ ((i : ℕ) → has u i ≡ true → has (mix (λ a b. a && b) w z) i ≡ true)
inter_within u w z =
    let e : (i : ℕ) → has (mix (λ a b. a && b) w z) i ≡ (has w i && has z i) = λ i. mix_has (λ a b. a && b) w z i refl in (
      λ p i h. e i ∙ (and_true (has w i) (has z i)).0 (p.0 i h, p.1 i h),
      λ q. (λ i h. ((and_true (has w i) (has z i)).1 (sym (e i) ∙ q i h)).0, λ i h. ((and_true (has w i) (has z i)).1 (sym (e i) ∙ q i h)).1),
    )

union_within : (u w z : List Bool) → (((i : ℕ) → has u i ≡ true → has z i ≡ true) × ((i : ℕ) → has w i ≡ true → has z i ≡ true)) ↔ ((i : ℕ) → has (mix (λ a b. a || b) u w) i ≡ true → has z i ≡ true)
union_within u w z =
    let e : (i : ℕ) → has (mix (λ a b. a || b) u w) i ≡ (has u i || has w i) = λ i. mix_has (λ a b. a || b) u w i refl in (
      λ p i h. elim ((or_true (has u i) (has w i)).1 (sym (e i) ∙ h)) [ inl g ↦ p.0 i g | inr g ↦ p.1 i g ],
      λ q. (λ i h. q i (e i ∙ (or_true (has u i) (has w i)).0 (inl h)), λ i h. q i (e i ∙ (or_true (has u i) (has w i)).0 (inr h))),
    )

-- set n is the set u, and m is neither n nor one of the numbers of t
pub set_says : (n : ℕ) (u : List Bool) (t : Group) (ρ : Numbering) (e : Env) (m : ℕ) (v : Sets) → Family v → IsSet v n u → (n ≡ m → ⊥) → Stand v ρ e (names_group t) → (Among m (numbers ρ (names_group t)) → ⊥) →
    Holds (set_within ρ n t m) v ↔ ((i : ℕ) → has u i ≡ true → has (members t e) i ≡ true)
set_says n u (group y) ρ e m v f p r s d = within_sets v n (ρ (OfGroup y)) u (e.groups y) p (named_set v (ρ (OfGroup y)) (e.groups y) (s (OfGroup y) (inl refl)))
set_says n u Empty ρ e m v f p r s d =
    let on : (w : List Bool) (i : ℕ) → put v m w n i ≡ v n i = λ w i. put_agree v m w n r i in (
      λ k i g. absurd (k ([], λ w. false≢true (sym (put_same v m [] i) ∙ (within_holds n m (put v m [])).0 w i (on [] i ∙ (p i).1 g)))),
      λ k z. z.1 ((within_holds n m (put v m z.0)).1 (λ i g. absurd (false≢true (k i ((p i).0 (sym (on z.0 i) ∙ g)))))),
    )
set_says n u (Only' _ (place y)) ρ e m v f p r s d = within_sets v n (ρ (OfPlace y)) u (one (e.places y)) p (named_place v (ρ (OfPlace y)) (e.places y) (s (OfPlace y) (inl refl)))
set_says n u (Inter' _ g _ h) ρ e m v f p r s d =
    let k = names_group g in let l = names_group h in
    iff_trans
    (iff_and (set_says n u g ρ e m v f p r (stand_left v ρ e k l s) (λ a. d (among_part ρ m k (k ++ l) (λ y b. among_left y k l b) a)))
    (set_says n u h ρ e m v f p r (stand_right v ρ e k l s) (λ a. d (among_part ρ m l (k ++ l) (λ y b. among_right y k l b) a))))
    (inter_within u (members g e) (members h e))
set_says n u h ρ e m v f p r s d =
    each_says true (lies m n) u h ρ e m v (λ q. lies_sure m n) f s d
    (λ t i ft a o. iff_trans (lies_says t m n i o) (λ x. (p i).0 (sym (a n r i) ∙ x), λ x. a n r i ∙ (p i).1 x))

-- m is none of the numbers of the two
pub within_says : (g h : Group) (ρ : Numbering) (e : Env) (m : ℕ) (v : Sets) → Family v → Stand v ρ e (names_group g ++ names_group h) → (Among m (numbers ρ (names_group g ++ names_group h)) → ⊥) →
    Holds (is_within ρ g h m) v ↔ Meaning (Sub g h) e
within_says (group x) h ρ e m v f s d =
    set_says (ρ (OfGroup x)) (e.groups x) h ρ e m v f (named_set v (ρ (OfGroup x)) (e.groups x) (s (OfGroup x) (inl refl))) (λ q. d (inl (sym q))) (λ y a. s y (inr a)) (λ a. d (inr a))
within_says Empty h ρ e m v f s d = (λ k i g. absurd (false≢true g), λ k. within_itself 0 v)
within_says (Only' _ (place x)) h ρ e m v f s d =
    set_says (ρ (OfPlace x)) (one (e.places x)) h ρ e m v f (named_place v (ρ (OfPlace x)) (e.places x) (s (OfPlace x) (inl refl))) (λ q. d (inl (sym q))) (λ y a. s y (inr a)) (λ a. d (inr a))
within_says (Union' _ g _ r) h ρ e m v f s d =
    let k = names_group g in let l = names_group r in let n = names_group h in
    iff_trans
    (iff_and (within_says g h ρ e m v f (λ x a. s x (first_of k l n x a)) (λ a. d (among_part ρ m (k ++ n) ((k ++ l) ++ n) (first_of k l n) a)))
    (within_says r h ρ e m v f (λ x a. s x (second_of k l n x a)) (λ a. d (among_part ρ m (l ++ n) ((k ++ l) ++ n) (second_of k l n) a))))
    (union_within (members g e) (members r e) (members h e))
within_says g h ρ e m v f s d =
    let k = names_group g in let l = names_group h in
    each_says (is_sure_in g) (is_in g ρ m) (members g e) h ρ e m v (group_sure g ρ m) f (stand_right v ρ e k l s) (λ a. d (among_part ρ m l (k ++ l) (λ y b. among_right y k l b) a))
    (λ t i ft a o. group_says g ρ e m i t ft (stand_agree m v t ρ e k a (λ x. d (among_part ρ m k (k ++ l) (λ y b. among_left y k l b) x)) (stand_left v ρ e k l s)) o)
