-- What the claims that are made of terms say of places.
use Rattle.std.proofs.Common.{◌≡◌, ℕ, suc, ◌-◌, Bool, true, false, not, ◌&&◌, ◌||◌, ◌⊎◌, ◌↔◌, List, [], ◌∷◌, sym, refl, ◌∙◌, subst, inl, inr, arith}
use mathlib.Core.Bool.{false≢true}
use Rattle.words.specs.Words.{Sets}
use Rattle.claims.specs.Claims.{C, next, before, not1, and1, some, Holds, has, put}
use Rattle.kinds.specs.Relations.{Only}
use Rattle.claims.specs.Places.{one}
use Rattle.claims.proofs.PlacesLaws.{only_one}
use Rattle.formulas.specs.declared.name.Name.TheVariants.{OfPlace, OfGroup}
use Rattle.formulas.specs.declared.formula.Place.{Place}
use Rattle.formulas.specs.declared.formula.Group.{Group}
use Rattle.formulas.specs.declared.formula.Place.TheVariants.{Named as place, First, Succ', Prev', Least', Most'}
use Rattle.formulas.specs.declared.formula.Group.TheVariants.{Named as group, Empty, Only', Union', Inter', Minus'}
use Rattle.formulas.specs.Sets.{lowest, highest}
use Rattle.formulas.specs.Meaning.{Env, value, members}
use Rattle.formulas.specs.Names.{names_place, names_group, Among}
use Rattle.formulas.proofs.SetsLaws.{mix_has, or_true, and_true, but_true, one_says, prev_says, Extreme, Below, Above, lowest_says, highest_says}
use Rattle.translation.specs.Numbers.{Numbering, numbers, fresh}
use Rattle.translation.specs.Translation.{or1, some_place, lies, is_first, is_before, is_end, is_sure, is_sure_in, about, behind, is_place, is_in}
use Rattle.translation.proofs.NumbersLaws.{fresh_free}
use Rattle.translation.proofs.Opened.{single_holds, next_holds, before_holds, within_itself}
use Rattle.translation.proofs.Families.{Family, Agree, family_put, holds_or_not, put_agree, only_agree}
use Rattle.translation.proofs.Standing.{Stand, stand_left, stand_right, stand_agree}
use Rattle.translation.proofs.Connectives.{next_says, before_says, lies_says, at_says, iff_trans, iff_not, iff_and, or_says, Sure, sure_left, sure_right, some_place_says, some_sure, first_says}

pub fresh_head : (n : ℕ) (l : List ℕ) → n ≡ fresh (n ∷ l) → ⊥
fresh_head n l q = fresh_free (n ∷ l) (inl (sym q))

pub fresh_tail : (n : ℕ) (l : List ℕ) → Among (fresh (n ∷ l)) l → ⊥
fresh_tail n l h = fresh_free (n ∷ l) (inr h)

iff_sym : {i j : ℕ} → (i ≡ j) ↔ (j ≡ i)
iff_sym = (λ e. sym e, λ e. sym e)

about_other : (b : Bool) (k m : ℕ) (c d : C) (v : Sets) (Q : ℕ → Type 0) → (b ≡ true → Sure m (and1 c d)) → Family v →
    ((t : Sets) (i : ℕ) → Family t → Agree m v t → Only t m i → Holds c t ↔ (k ≡ i)) →
    ((t : Sets) (i : ℕ) → Family t → Agree m v t → Only t m i → Holds d t ↔ Q i) → Holds (some_place b m (and1 c d)) v ↔ Q k
about_other b k m c d v Q sure f h g = iff_trans
    (some_place_says b m (and1 c d) v (λ i. (k ≡ i) × Q i) sure f (λ t i ft a o. iff_and (h t i ft a o) (g t i ft a o)))
    (λ s. subst Q (sym s.1.0) s.1.1, λ q. (k, (refl, q)))

pub about_says : (p : Place) (ρ : Numbering) (e : Env) (m : ℕ) (c : C) (b : Bool) (d : ℕ → C) (v : Sets) (Q : ℕ → Type 0) → (is_sure p ≡ true → Sure m c) → (b ≡ true → Sure m (d m)) →
    Family v → Stand v ρ e (names_place p) →
    ((t : Sets) (i : ℕ) → Family t → Agree m v t → Only t m i → Holds c t ↔ (value p e ≡ i)) →
    ((t : Sets) (a i : ℕ) → Family t → Agree m v t → Among a (m ∷ numbers ρ (names_place p)) → Only t a i → Holds (d a) t ↔ Q i) →
    Holds (about ρ p m c b d) v ↔ Q (value p e)
about_says (place x) ρ e m c b d v Q u w f s h g = g v (ρ (OfPlace x)) (e.places x) f (λ y n i. refl) (inr (inl refl)) (s (OfPlace x) (inl refl))
about_says First ρ e m c b d v Q u w f s h g = about_other b 0 m c (d m) v Q (λ q. sure_right c (w q)) f h (λ t i ft a o. g t m i ft a (inl refl) o)
about_says (Succ' _ p) ρ e m c b d v Q u w f s h g = about_other true (suc (value p e)) m c (d m) v Q (λ q. sure_left (d m) (u q)) f h (λ t i ft a o. g t m i ft a (inl refl) o)
about_says (Prev' _ p) ρ e m c b d v Q u w f s h g = about_other b (value p e - 1) m c (d m) v Q (λ q. sure_right c (w q)) f h (λ t i ft a o. g t m i ft a (inl refl) o)
about_says (Least' _ p) ρ e m c b d v Q u w f s h g = about_other b (lowest (members p e)) m c (d m) v Q (λ q. sure_right c (w q)) f h (λ t i ft a o. g t m i ft a (inl refl) o)
about_says (Most' _ p) ρ e m c b d v Q u w f s h g = about_other b (highest (members p e)) m c (d m) v Q (λ q. sure_right c (w q)) f h (λ t i ft a o. g t m i ft a (inl refl) o)

behind_other : (k m : ℕ) (c : C) (n i : ℕ) (v : Sets) → Family v → (n ≡ m → ⊥) → Only v n i →
    ((t : Sets) (j : ℕ) → Family t → Agree m v t → Only t m j → Holds c t ↔ (k ≡ j)) → Holds (some m (and1 c (next m n))) v ↔ (suc k ≡ i)
behind_other k m c n i v f d o h = (λ s. to s.0 s.1.0 s.1.1, from)
  where
    to : (u : List Bool) → Holds c (put v m u) → Holds (next m n) (put v m u) → suc k ≡ i
    to u hc hn =
        let (j, p, q) = (next_holds m n (put v m u)).0 hn in
        let x = (h (put v m u) j (family_put v m u f) (put_agree v m u) p).0 hc in
        let y = o.1 (suc j) (sym (put_agree v m u n d (suc j)) ∙ q.0) in
        omega arith

    from : suc k ≡ i → Holds (some m (and1 c (next m n))) v
    from e = (
      one k,
      (
        (h (put v m (one k)) k (family_put v m (one k) f) (put_agree v m (one k)) (only_one v m k)).1 refl,
        (next_holds m n (put v m (one k))).1 (k, only_one v m k, subst (Only (put v m (one k)) n) (sym e) (only_agree m n i v (put v m (one k)) (put_agree v m (one k)) d o)),
      ),
    )

behind_says : (p : Place) (ρ : Numbering) (e : Env) (m : ℕ) (c : C) (n i : ℕ) (v : Sets) → Family v → (n ≡ m → ⊥) → Only v n i → Stand v ρ e (names_place p) →
    ((t : Sets) (j : ℕ) → Family t → Agree m v t → Only t m j → Holds c t ↔ (value p e ≡ j)) → Holds (behind ρ p m c n) v ↔ (suc (value p e) ≡ i)
behind_says (place x) ρ e m c n i v f d o s h = iff_trans (next_says v (ρ (OfPlace x)) n (e.places x) i (s (OfPlace x) (inl refl)) o) iff_sym
behind_says First ρ e m c n i v f d o s h = behind_other 0 m c n i v f d o h
behind_says (Succ' _ p) ρ e m c n i v f d o s h = behind_other (suc (value p e)) m c n i v f d o h
behind_says (Prev' _ p) ρ e m c n i v f d o s h = behind_other (value p e - 1) m c n i v f d o h
behind_says (Least' _ p) ρ e m c n i v f d o s h = behind_other (lowest (members p e)) m c n i v f d o h
behind_says (Most' _ p) ρ e m c n i v f d o s h = behind_other (highest (members p e)) m c n i v f d o h

-- which claims are sure
next_second : (a b : ℕ) → Sure b (next a b)
next_second a b = record { place = λ t f h. (let (i, p, q) = (next_holds a b t).0 h in (suc i, q)) }

pub lies_sure : (n b : ℕ) → Sure n (lies n b)
lies_sure n b = record { place = λ t f h. (single_holds n t).0 h.0 }

behind_sure : (p : Place) (ρ : Numbering) (k : ℕ) (c : C) (m : ℕ) → (m ≡ k → ⊥) → Sure m (behind ρ p k c m)
behind_sure (place x) ρ k c m d = next_second (ρ (OfPlace x)) m
behind_sure p ρ k c m d = some_sure k m (and1 c (next k m)) d (sure_right c (next_second k m))

pub place_sure : (p : Place) (ρ : Numbering) (m : ℕ) → is_sure p ≡ true → Sure m (is_place p ρ m)
place_sure (place x) ρ m q = lies_sure m (ρ (OfPlace x))
place_sure (Succ' _ p) ρ m q = let l = numbers ρ (names_place p) in let k = fresh (m ∷ l) in behind_sure p ρ k (is_place p ρ k) m (fresh_head m l)
place_sure p ρ m q = absurd (false≢true q)

or_sure : (n : ℕ) (c d : C) → Sure n c → Sure n d → Sure n (or1 c d)
or_sure n c d u w = record { place = λ t f h. elim (holds_or_not c t f) [ yes p ↦ u.place t f p | no k ↦ elim (holds_or_not d t f) [ yes p ↦ w.place t f p | no l ↦ absurd (h (k, l)) ] ] }

pub group_sure : (g : Group) (ρ : Numbering) (m : ℕ) → is_sure_in g ≡ true → Sure m (is_in g ρ m)
group_sure (group x) ρ m q = lies_sure m (ρ (OfGroup x))
group_sure Empty ρ m q = record { place = λ t f h. absurd (h (within_itself m t)) }
group_sure (Only' _ p) ρ m q = place_sure p ρ m q
group_sure (Union' _ g _ h) ρ m q = let r = (and_true (is_sure_in g) (is_sure_in h)).1 q in or_sure m (is_in g ρ m) (is_in h ρ m) (group_sure g ρ m r.0) (group_sure h ρ m r.1)
group_sure (Inter' _ g _ h) ρ m q = elim ((or_true (is_sure_in g) (is_sure_in h)).1 q) [ inl r ↦ sure_left (is_in h ρ m) (group_sure g ρ m r) | inr r ↦ sure_right (is_in g ρ m) (group_sure h ρ m r) ]
group_sure (Minus' _ g _ h) ρ m q = sure_left (not1 (is_in h ρ m)) (group_sure g ρ m q)

pub before_first : (a b : ℕ) → Sure a (before a b)
before_first a b = record { place = λ t f h. (let (i, j, p, q, l) = (before_holds a b t).0 h in (i, p)) }

pub before_second : (a b : ℕ) → Sure b (before a b)
before_second a b = record { place = λ t f h. (let (i, j, p, q, l) = (before_holds a b t).0 h in (j, q)) }

-- both ends of a set in the same way
extreme_says : (s : C) (w : Bool) (b s' : C) (n m i : ℕ) (v : Sets) (R : ℕ → ℕ → Type 0) (u : List Bool) → (w ≡ true → Sure m s') → Sure m b → Family v → (n ≡ m → ⊥) → Only v n i → Holds s v ↔ (has u i ≡ true) →
    ((t : Sets) (j : ℕ) → Family t → Agree m v t → Only t m j → Holds b t ↔ R j i) →
    ((t : Sets) (j : ℕ) → Family t → Agree m v t → Only t m j → Holds s' t ↔ (has u j ≡ true)) →
    Holds (is_end m n s w s' b) v ↔ Extreme R u i
extreme_says s w b s' n m i v R u sure beyond f d o h g k =
    or_says (and1 s (not1 (some m (and1 b s')))) (and1 (is_first m n) (not1 (some_place w m s'))) v f
    (iff_and h (iff_not (some_place_says true m (and1 b s') v (λ j. R j i × (has u j ≡ true)) (λ q. sure_left s' beyond) f (λ t j ft a q. iff_and (g t j ft a q) (k t j ft a q)))))
    (iff_and (first_says m n i v d o) (iff_not (some_place_says w m s' v (λ j. has u j ≡ true) sure f k)))

mutual
  pub place_says : (p : Place) (ρ : Numbering) (e : Env) (n i : ℕ) (v : Sets) → Family v → Stand v ρ e (names_place p) → Only v n i → Holds (is_place p ρ n) v ↔ (value p e ≡ i)
  place_says (place x) ρ e n i v f s o = iff_trans (lies_says v n (ρ (OfPlace x)) i o) (at_says v (ρ (OfPlace x)) i (e.places x) (s (OfPlace x) (inl refl)))
  place_says First ρ e n i v f s o = iff_trans (first_says (fresh (n ∷ [])) n i v (fresh_head n []) o) iff_sym
  place_says (Succ' _ p) ρ e n i v f s o =
      let l = numbers ρ (names_place p) in
      let m = fresh (n ∷ l) in
      behind_says p ρ e m (is_place p ρ m) n i v f (fresh_head n l) o s
      (λ t j ft a q. place_says p ρ e m j t ft (stand_agree m v t ρ e (names_place p) a (fresh_tail n l) s) q)
  place_says (Prev' _ p) ρ e n i v f s o =
      let l = numbers ρ (names_place p) in
      let m = fresh (n ∷ l) in
      iff_trans
      (about_says p ρ e m (is_place p ρ m) false (is_before (fresh (n ∷ [])) n) v (λ j. (j ≡ suc i) ⊎ ((j ≡ i) × (i ≡ 0))) (place_sure p ρ m) (λ q. absurd (false≢true q)) f s
      (λ t j ft a q. place_says p ρ e m j t ft (stand_agree m v t ρ e (names_place p) a (fresh_tail n l) s) q)
      (λ t b j ft a r q. (let w = only_agree m n i v t a (fresh_head n l) o in
      or_says (next n b) (and1 (lies n b) (is_first (fresh (n ∷ [])) n)) t ft (next_says t n b i j w q)
      (iff_and (iff_trans (lies_says t n b i w) (at_says t b i j q)) (first_says (fresh (n ∷ [])) n i t (fresh_head n []) w)))))
      (prev_says (value p e) i)
  place_says (Least' _ g) ρ e n i v f s o =
      let l = numbers ρ (names_group g) in
      let m = fresh (n ∷ l) in
      iff_trans
      (extreme_says (is_in g ρ n) (is_sure_in g) (before m n) (is_in g ρ m) n m i v Below (members g e) (group_sure g ρ m) (before_first m n) f (fresh_head n l) o (group_says g ρ e n i v f s o)
      (λ t j ft a q. before_says t m n j i q (only_agree m n i v t a (fresh_head n l) o))
      (λ t j ft a q. group_says g ρ e m j t ft (stand_agree m v t ρ e (names_group g) a (fresh_tail n l) s) q))
      (lowest_says (members g e) i)
  place_says (Most' _ g) ρ e n i v f s o =
      let l = numbers ρ (names_group g) in
      let m = fresh (n ∷ l) in
      iff_trans
      (extreme_says (is_in g ρ n) (is_sure_in g) (before n m) (is_in g ρ m) n m i v Above (members g e) (group_sure g ρ m) (before_second n m) f (fresh_head n l) o (group_says g ρ e n i v f s o)
      (λ t j ft a q. before_says t n m i j (only_agree m n i v t a (fresh_head n l) o) q)
      (λ t j ft a q. group_says g ρ e m j t ft (stand_agree m v t ρ e (names_group g) a (fresh_tail n l) s) q))
      (highest_says (members g e) i)

  pub group_says : (g : Group) (ρ : Numbering) (e : Env) (n i : ℕ) (v : Sets) → Family v → Stand v ρ e (names_group g) → Only v n i → Holds (is_in g ρ n) v ↔ (has (members g e) i ≡ true)
  group_says (group x) ρ e n i v f s o = let q = s (OfGroup x) (inl refl) i in iff_trans (lies_says v n (ρ (OfGroup x)) i o) (λ h. sym q ∙ h, λ h. q ∙ h)
  group_says Empty ρ e n i v f s o = (λ h. absurd (h (within_itself n v)), λ h. absurd (false≢true h))
  group_says (Only' _ p) ρ e n i v f s o = iff_trans (place_says p ρ e n i v f s o) (one_says (value p e) i)
  group_says (Union' _ g _ h) ρ e n i v f s o =
      let z = mix_has (λ a b. a || b) (members g e) (members h e) i refl in
      iff_trans (or_says (is_in g ρ n) (is_in h ρ n) v f
      (group_says g ρ e n i v f (stand_left v ρ e (names_group g) (names_group h) s) o) (group_says h ρ e n i v f (stand_right v ρ e (names_group g) (names_group h) s) o))
      (iff_trans (or_true (has (members g e) i) (has (members h e) i)) (λ q. z ∙ q, λ q. sym z ∙ q))
  group_says (Inter' _ g _ h) ρ e n i v f s o =
      let z = mix_has (λ a b. a && b) (members g e) (members h e) i refl in
      iff_trans (iff_and
      (group_says g ρ e n i v f (stand_left v ρ e (names_group g) (names_group h) s) o) (group_says h ρ e n i v f (stand_right v ρ e (names_group g) (names_group h) s) o))
      (iff_trans (and_true (has (members g e) i) (has (members h e) i)) (λ q. z ∙ q, λ q. sym z ∙ q))
  group_says (Minus' _ g _ h) ρ e n i v f s o =
      let z = mix_has (λ a b. a && not b) (members g e) (members h e) i refl in
      iff_trans (iff_and
      (group_says g ρ e n i v f (stand_left v ρ e (names_group g) (names_group h) s) o) (iff_not (group_says h ρ e n i v f (stand_right v ρ e (names_group g) (names_group h) s) o)))
      (iff_trans (but_true (has (members g e) i) (has (members h e) i)) (λ q. z ∙ q, λ q. sym z ∙ q))
