-- How the choices are gone through in their order: by how many numbers they have, and of one many by the first number, the second and so on. K is what is asked of a choice.
use Rattle.std.proofs.Common.{◌≡◌, ℕ, ◌+◌, ◌<◌, ◌≤◌, ◌⊎◌, List, [], ◌∷◌, ◌++◌, length, sym, refl, ap, ◌∙◌, subst, inl, inr, arith, append_assoc, append-nil, length-append}
use native.Mathlib.Decide.{ℕ_discrete, dec_lt}
use Rattle.words.specs.Order.{Less, at_once, later, shorter}
use Rattle.words.proofs.OrderLaws.{less_irrefl, less_trans}
use Rattle.strengthening.specs.Choices.{Rising, Choice}
use Rattle.strengthening.specs.Search.{Extends, NoneExtends, Reaches, NoneTo, NoneBelow}

rising_down : (a b n : ℕ) (ks : List ℕ) → b ≤ a → Rising a n ks → Rising b n ks
rising_down a b n [] l h = tt
rising_down a b n (i ∷ ks) l h = (let z = h.0 in omega arith, h.1, h.2)

-- what is put before both words does not matter
less_front : (is : List ℕ) {u v : List ℕ} → length u ≡ length v → Less u v → Less (is ++ u) (is ++ v)
less_front [] e l = l
less_front (i ∷ is) {u} {v} e l = later (less_front is e l) (length-append is u ∙ (ap (λ z. length is + z) e ∙ sym (length-append is v)))

pub less_length : {u v : List ℕ} → Less u v → length u ≤ length v
less_length (at_once h e) = omega arith
less_length (later l e) = omega arith
less_length (shorter h) = omega arith

module _ (n : ℕ) where
  itself : (a : ℕ) (is : List ℕ) → Extends a n 0 is is
  itself a is = ([], sym (append-nil is), tt, refl)

  alone : (a : ℕ) (is js : List ℕ) → Extends a n 0 is js → js ≡ is
  alone a is js (ks, e, r, l) = at ks e l
    where
      at : (ks : List ℕ) → js ≡ is ++ ks → length ks ≡ 0 → js ≡ is
      at [] e l = e ∙ append-nil is
      at (i ∷ ks) e l = let z : ⊥ = omega arith in absurd z

  -- with d for its next number
  with_next : (a d m : ℕ) (is js : List ℕ) → a ≤ d → d < n → Extends (d + 1) n m (is ++ (d ∷ [])) js → Extends a n (m + 1) is js
  with_next a d m is js h l (ks, e, r, s) = (d ∷ ks, e ∙ append_assoc is (d ∷ []) ks, (h, l, r), omega arith)

  -- each has one
  next_of : (a m : ℕ) (is js : List ℕ) → Extends a n (m + 1) is js → (d : ℕ) × (a ≤ d) × (d < n) × Extends (d + 1) n m (is ++ (d ∷ [])) js
  next_of a m is js (ks, e, r, l) = at ks e r l
    where
      at : (ks : List ℕ) → js ≡ is ++ ks → Rising a n ks → length ks ≡ m + 1 → (d : ℕ) × (a ≤ d) × (d < n) × Extends (d + 1) n m (is ++ (d ∷ [])) js
      at [] e r l = let z : ⊥ = omega arith in absurd z
      at (d ∷ ks) e r l = (d, r.0, r.1, (ks, e ∙ sym (append_assoc is (d ∷ []) ks), r.2, omega arith))

  -- of two choices the one whose next number is lower comes first
  lower_first : (c d m : ℕ) (is js ks : List ℕ) → c < d → Extends (c + 1) n m (is ++ (c ∷ [])) js → Extends (d + 1) n m (is ++ (d ∷ [])) ks → Less js ks
  lower_first c d m is js ks h (us, e, r, l) (vs, f, s, k) =
      let o : Less (c ∷ us) (d ∷ vs) = at_once h (omega arith) in
      let p : Less (is ++ (c ∷ us)) (is ++ (d ∷ vs)) = less_front is (omega arith) o in
      subst (λ z. Less z ks) (sym (e ∙ append_assoc is (c ∷ []) us)) (subst (λ z. Less (is ++ (c ∷ us)) z) (sym (f ∙ append_assoc is (d ∷ []) vs)) p)

  module _ (K : List ℕ → Type 0) where
    -- a choice that is complete
    pub judged : (a : ℕ) (is : List ℕ) → (K is → ⊥) → NoneExtends K a n 0 is
    judged a is absent js x k = absent (subst K (alone a is js x) k)

    pub reached : (a : ℕ) (is : List ℕ) → Reaches K a n 0 is is
    reached a is = record { extends = itself a is; first = λ ks x l k. less_irrefl is (subst (λ z. Less z is) (alone a is ks x) l) }

    -- none before the first next number; one number further; and all of them
    pub to_start : (a m : ℕ) (is : List ℕ) → NoneTo K a n m is a
    to_start a m is d h l = (let z : ⊥ = omega arith in absurd z)

    pub to_next : (a m : ℕ) (is : List ℕ) (c : ℕ) → NoneTo K a n m is c → NoneExtends K (c + 1) n m (is ++ (c ∷ [])) → NoneTo K a n m is (c + 1)
    to_next a m is c t none d h l = elim (dec_lt d c) [
      | yes s ↦ t d h s
      | no s ↦ (let e : c ≡ d = omega arith in subst (λ z. NoneExtends K (z + 1) n m (is ++ (z ∷ []))) e none)
    ]

    pub to_end : (a m : ℕ) (is : List ℕ) → NoneTo K a n m is n → NoneExtends K a n (m + 1) is
    to_end a m is t js x k = let (d, h, l, y) = next_of a m is js x in t d h l js y k

    -- where nothing is left there is none
    pub too_far : (a m : ℕ) (is : List ℕ) → n ≤ a → NoneExtends K a n (m + 1) is
    too_far a m is h js x k = let (d, l, s, y) = next_of a m is js x in (let z : ⊥ = omega arith in z)

    -- what is reached behind next number c is reached
    pub reached_at : (a m : ℕ) (is js : List ℕ) (c : ℕ) → a ≤ c → c < n → NoneTo K a n m is c → Reaches K (c + 1) n m (is ++ (c ∷ [])) js → Reaches K a n (m + 1) is js
    reached_at a m is js c h l t r = record {
      extends = with_next a c m is js h l r.extends;
      first = λ ks x o k. (let (d, g, s, y) = next_of a m is ks x in elim (dec_lt d c) [
        | yes p ↦ t d g p ks y k
        | no p ↦ elim (ℕ_discrete c d) [
          | yes e ↦ r.first ks (subst (λ z. Extends (z + 1) n m (is ++ (z ∷ [])) ks) (sym e) y) o k
          | no e ↦ less_irrefl js (less_trans js ks js (lower_first c d m is js ks (omega arith) r.extends y) o)
        ]
      ]);
    }

    -- by how many numbers
    pub none_below : NoneBelow K n 0
    none_below js r l k = (let z : ⊥ = omega arith in z)

    pub one_more : (m : ℕ) → NoneBelow K n m → NoneExtends K 0 n m [] → NoneBelow K n (m + 1)
    one_more m t none js r l k = elim (dec_lt (length js) m) [ yes s ↦ t js r s k | no s ↦ none js (js, refl, r, omega arith) k ]

    -- the first of all
    pub reached_choice : (m : ℕ) (js : List ℕ) → m ≤ 8 → Reaches K 0 n m [] js → Choice n js
    reached_choice m js h r = at r.extends
      where
        at : Extends 0 n m [] js → Choice n js
        at (ks, e, s, l) = (let p : length js ≡ m = ap length e ∙ l in (subst (λ z. Rising 0 n z) (sym e) s, omega arith))

    pub first_of_all : (m : ℕ) (js : List ℕ) → NoneBelow K n m → Reaches K 0 n m [] js → (us : List ℕ) → Choice n us → Less us js → K us → ⊥
    first_of_all m js t r us ch o k = at r.extends
      where
        at : Extends 0 n m [] js → ⊥
        at (ks, e, s, l) =
            let p : length js ≡ m = ap length e ∙ l in
            elim (dec_lt (length us) m) [
              | yes q ↦ t us ch.0 q k
              | no q ↦ r.first us (us, refl, ch.0, (let g = less_length o in omega arith)) o k
            ]

    pub none_among : NoneBelow K n 9 → (us : List ℕ) → Choice n us → K us → ⊥
    none_among t us ch k = t us ch.0 (let l = ch.1 in omega arith) k
