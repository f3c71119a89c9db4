-- What claims say of places: those without parts, and those that are put together.
use Rattle.std.proofs.Common.{◌≡◌, ℕ, zero, suc, ◌<◌, Bool, true, false, not, List, ◌⊎◌, ◌↔◌, sym, refl, ◌∙◌, subst, inl, inr, arith}
use Rattle.words.specs.Words.{Sets}
use Rattle.claims.specs.Claims.{C, before, next, within, single, and1, some, Holds, put}
use Rattle.kinds.specs.Relations.{Only}
use Rattle.claims.specs.Places.{one}
use Rattle.claims.proofs.PlacesLaws.{only_one}
use Rattle.translation.specs.Translation.{signed, or1, some_place, lies, is_first}
use Rattle.translation.proofs.Opened.{within_holds, single_holds, next_holds, before_holds}
use Rattle.translation.proofs.Families.{Family, Agree, family_put, holds_or_not, put_agree, only_agree}

-- what claims say of places
pub next_says : (v : Sets) (a b i j : ℕ) → Only v a i → Only v b j → Holds (next a b) v ↔ (j ≡ suc i)
next_says v a b i j o p =
    let n = next_holds a b v in
    (λ h. (let (k, r, s) = n.0 h in let x = o.1 k r.0 in let y = p.1 (suc k) s.0 in omega arith), λ e. n.1 (i, o, subst (Only v b) e p))

pub before_says : (v : Sets) (a b i j : ℕ) → Only v a i → Only v b j → Holds (before a b) v ↔ (i < j)
before_says v a b i j o p =
    let n = before_holds a b v in
    (λ h. (let (k, l, r, s, g) = n.0 h in let x = o.1 k r.0 in let y = p.1 l s.0 in omega arith), λ g. n.1 (i, j, o, p, g))

pub within_says : (v : Sets) (a b i : ℕ) → Only v a i → Holds (within a b) v ↔ (v b i ≡ true)
within_says v a b i o = let n = within_holds a b v in (λ h. n.0 h i o.0, λ h. n.1 (λ j g. subst (λ z. v b z ≡ true) (sym (o.1 j g)) h))

pub lies_says : (v : Sets) (a b i : ℕ) → Only v a i → Holds (lies a b) v ↔ (v b i ≡ true)
lies_says v a b i o = (λ h. (within_says v a b i o).0 h.1, λ h. ((single_holds a v).1 (i, o), (within_says v a b i o).1 h))

pub at_says : (v : Sets) (b i j : ℕ) → Only v b j → (v b i ≡ true) ↔ (j ≡ i)
at_says v b i j o = (λ h. sym (o.1 i h), λ e. subst (λ z. v b z ≡ true) e o.0)

pub iff_trans : {A B D : Type 0} → A ↔ B → B ↔ D → A ↔ D
iff_trans f g = (λ a. g.0 (f.0 a), λ d. f.1 (g.1 d))

pub iff_not : {A B : Type 0} → A ↔ B → (A → ⊥) ↔ (B → ⊥)
iff_not f = (λ n b. n (f.1 b), λ n a. n (f.0 a))

pub iff_and : {A B D E : Type 0} → A ↔ B → D ↔ E → (A × D) ↔ (B × E)
iff_and f g = (λ p. (f.0 p.0, g.0 p.1), λ p. (f.1 p.0, g.1 p.1))

pub or_says : (c d : C) (v : Sets) {A B : Type 0} → Family v → Holds c v ↔ A → Holds d v ↔ B → Holds (or1 c d) v ↔ (A ⊎ B)
or_says c d v {A} {B} f g h = (to (holds_or_not c v f) (holds_or_not d v f), λ s n. elim s [ inl a ↦ n.0 (g.1 a) | inr b ↦ n.1 (h.1 b) ])
  where
    to : Dec (Holds c v) → Dec (Holds d v) → Holds (or1 c d) v → A ⊎ B
    to (yes a) y n = inl (g.0 a)
    to (no a) (yes b) n = inr (h.0 b)
    to (no a) (no b) n = absurd (n (a, b))

-- the claim holds only if set n is a place
pub record Sure (n : ℕ) (c : C) : Type 0 where
  pub place : (t : Sets) → Family t → Holds c t → (i : ℕ) × Only t n i

pub sure_left : {n : ℕ} {c : C} (d : C) → Sure n c → Sure n (and1 c d)
sure_left d u = record { place = λ t f h. u.place t f h.0 }

pub sure_right : {n : ℕ} (c : C) {d : C} → Sure n d → Sure n (and1 c d)
sure_right c u = record { place = λ t f h. u.place t f h.1 }

pub some_place_says : (b : Bool) (m : ℕ) (c : C) (v : Sets) (Q : ℕ → Type 0) → (b ≡ true → Sure m c) → Family v →
    ((t : Sets) (i : ℕ) → Family t → Agree m v t → Only t m i → Holds c t ↔ Q i) → Holds (some_place b m c) v ↔ ((i : ℕ) × Q i)
some_place_says true m c v Q sure f h = (
  λ s. (let (u, p) = s in let (i, o) = (sure refl).place (put v m u) (family_put v m u f) p in (i, (h (put v m u) i (family_put v m u f) (put_agree v m u) o).0 p)),
  λ s. (let (i, q) = s in (one i, (h (put v m (one i)) i (family_put v m (one i) f) (put_agree v m (one i)) (only_one v m i)).1 q)),
)
some_place_says false m c v Q sure f h = (
  λ s. (let (u, r) = s in let (p, q) = r in let (i, o) = (single_holds m (put v m u)).0 p in (i, (h (put v m u) i (family_put v m u f) (put_agree v m u) o).0 q)),
  λ s. (let (i, q) = s in (one i, ((single_holds m (put v m (one i))).1 (i, only_one v m i), (h (put v m (one i)) i (family_put v m (one i) f) (put_agree v m (one i)) (only_one v m i)).1 q))),
)

only_back : (k m i : ℕ) (v : Sets) (u : List Bool) → (m ≡ k → ⊥) → Only (put v k u) m i → Only v m i
only_back k m i v u d o = (sym (put_agree v k u m d i) ∙ o.0, λ j h. o.1 j (put_agree v k u m d j ∙ h))

pub some_sure : (m n : ℕ) (c : C) → (n ≡ m → ⊥) → Sure n c → Sure n (some m c)
some_sure m n c d sure = record { place = λ v f s. (let (u, q) = s in let (i, o) = sure.place (put v m u) (family_put v m u f) q in (i, only_back m n i v u d o)) }

pub some_place_sure : (b : Bool) (m n : ℕ) (c : C) → (n ≡ m → ⊥) → Sure n c → Sure n (some_place b m c)
some_place_sure true m n c d sure = some_sure m n c d sure
some_place_sure false m n c d sure = some_sure m n (and1 (single m) c) d (sure_right (single m) sure)

pub first_says : (m n i : ℕ) (v : Sets) → (n ≡ m → ⊥) → Only v n i → Holds (is_first m n) v ↔ (i ≡ 0)
first_says m n i v d o = (to i o, from)
  where
    to : (i : ℕ) → Only v n i → Holds (is_first m n) v → i ≡ 0
    to zero o h = refl
    to (suc i) o h = let t = put v m (one i) in absurd (h (one i, (next_holds m n t).1 (i, only_one v m i, only_agree m n (suc i) v t (put_agree v m (one i)) d o)))

    from : i ≡ 0 → Holds (is_first m n) v
    from e h = let (u, p) = h in let (k, r, s) = (next_holds m n (put v m u)).0 p in let z = o.1 (suc k) (sym (put_agree v m u n d (suc k)) ∙ s.0) in omega arith

-- the statement, or its opposite
abbrev pub Said : Bool → Type 0 → Type 0
Said true P = P
Said false P = P → ⊥

pub dec_of : (c : C) (v : Sets) {A : Type 0} → Family v → Holds c v ↔ A → Dec A
dec_of c v f g = elim (holds_or_not c v f) [ yes p ↦ yes (g.0 p) | no n ↦ no (λ a. n (g.1 a)) ]

pub signed_says : (b : Bool) (c : C) (v : Sets) {A : Type 0} → Holds c v ↔ A → Holds (signed b c) v ↔ Said b A
signed_says true c v g = g
signed_says false c v g = iff_not g

pub not_said : (b : Bool) {A : Type 0} → Dec A → Said (not b) A ↔ Said b (A → ⊥)
not_said true d = (λ n. n, λ n. n)
not_said false {A} d = (λ a n. n a, λ n. to d n)
  where
    to : Dec A → ((A → ⊥) → ⊥) → A
    to (yes a) n = a
    to (no k) n = absurd (n k)

-- one of two, by their opposites
pub either_says : (b : Bool) (c d : C) (v : Sets) {A B : Type 0} → Holds c v ↔ (A → ⊥) → Holds d v ↔ (B → ⊥) → Dec A → Dec B → Holds (signed (not b) (and1 c d)) v ↔ Said b (A ⊎ B)
either_says true c d v {A} {B} g h x y = (λ n. to x y (λ p. n (g.1 p.0, h.1 p.1)), λ s q. elim s [ inl a ↦ g.0 q.0 a | inr b ↦ h.0 q.1 b ])
  where
    to : Dec A → Dec B → (((A → ⊥) × (B → ⊥)) → ⊥) → A ⊎ B
    to (yes a) y n = inl a
    to (no k) (yes b) n = inr b
    to (no k) (no l) n = absurd (n (k, l))
either_says false c d v g h x y = (λ q s. elim s [ inl a ↦ g.0 q.0 a | inr b ↦ h.0 q.1 b ], λ n. (g.1 (λ a. n (inl a)), h.1 (λ b. n (inr b))))

-- the second where the first, by the opposite of the second
pub implies_says : (b : Bool) (c d : C) (v : Sets) {A B : Type 0} → Holds c v ↔ A → Holds d v ↔ (B → ⊥) → Dec A → Dec B → Holds (signed (not b) (and1 c d)) v ↔ Said b (A → B)
implies_says true c d v {A} {B} g h x y = (λ n a. to y (λ k. n (g.1 a, h.1 k)), λ k q. h.0 q.1 (k (g.0 q.0)))
  where
    to : Dec B → ((B → ⊥) → ⊥) → B
    to (yes b) n = b
    to (no k) n = absurd (n k)
implies_says false c d v {A} {B} g h x y = (λ q k. h.0 q.1 (k (g.0 q.0)), λ n. (g.1 (to x n), h.1 (λ b. n (λ a. b))))
  where
    to : Dec A → ((A → B) → ⊥) → A
    to (yes a) n = a
    to (no k) n = absurd (n (λ a. absurd (k a)))

-- all, by one that is not
pub all_says : {I : Type 0} (b : Bool) (c : C) (v : Sets) (A : I → Type 0) → Family v → Holds c v ↔ ((i : I) × (A i → ⊥)) → ((i : I) → Dec (A i)) → Holds (signed (not b) c) v ↔ Said b ((i : I) → A i)
all_says {I} true c v A f g d = (λ n i. to i (d i) n, λ q h. (let (i, k) = g.0 h in k (q i)))
  where
    to : (i : I) → Dec (A i) → (Holds c v → ⊥) → A i
    to i (yes a) n = a
    to i (no k) n = absurd (n (g.1 (i, k)))
all_says {I} false c v A f g d = (λ h q. (let (i, k) = g.0 h in k (q i)), λ n. to (holds_or_not c v f) n)
  where
    at : (i : I) → Dec (A i) → (Holds c v → ⊥) → A i
    at i (yes a) n = a
    at i (no k) n = absurd (n (g.1 (i, k)))

    to : Dec (Holds c v) → (((i : I) → A i) → ⊥) → Holds c v
    to (yes h) n = h
    to (no k) n = absurd (n (λ i. at i (d i) k))
