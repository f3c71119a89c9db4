-- Which words of rising numbers are listed, and that each comes before the next.
use Rattle.std.proofs.Common.{◌≡◌, ℕ, zero, suc, ◌+◌, ◌≤◌, List, [], ◌∷◌, ◌++◌, map, length, get_or, All, AllPairs, Contains, refl, sym, ap, ◌∙◌, subst, arith}
use native.Mathlib.Decide.{ℕ_discrete, dec_lt}
use Rattle.std.proofs.lemmas.List.{get_or-map, length-map}
use Rattle.std.proofs.lemmas.List.Elements.{All-nil, All-cons, All-append, All-map, All-weaker, Contains-append_left, Contains-append_right}
use Rattle.std.proofs.lemmas.List.Kept.{AllPairs-cons}
use Rattle.words.specs.Order.{Less, at_once, later, shorter}
use Rattle.strengthening.specs.Choices.{Rising}
use Rattle.strengthen.specs.Before.{words_from, words_to}

-- lists of words
contains_map : {X Y : Type 0} (f : X → Y) (xs : List X) (x : X) → Contains xs x → Contains (map f xs) (f x)
contains_map f xs x c = (c.0, (let l = c.1 in omega (arith, length-map xs f)), get_or-map f xs c.0 x (f x) c.1 ∙ ap f c.2)

module _ {X : Type 0} (R : X → X → Type 0) where
  pairs_head : (x : X) (xs : List X) → AllPairs R (x ∷ xs) → All (R x) xs
  pairs_head x xs h k d l = h 0 (suc k) d (omega arith) (omega arith)

  pairs_tail : (x : X) (xs : List X) → AllPairs R (x ∷ xs) → AllPairs R xs
  pairs_tail x xs h i j d l m = h (suc i) (suc j) d (omega arith) (omega arith)

  pairs_append : (xs ys : List X) → AllPairs R xs → AllPairs R ys → All (λ x. All (R x) ys) xs → AllPairs R (xs ++ ys)
  pairs_append [] ys h g c = g
  pairs_append (x ∷ xs) ys h g c = AllPairs-cons R x (xs ++ ys) (All-append (R x) xs ys (pairs_head x xs h) (c 0 x (omega arith))) (pairs_append xs ys (pairs_tail x xs h) g (λ k d l. c (suc k) d (omega arith)))

rising_down : (a n : ℕ) (ks : List ℕ) → Rising (a + 1) n ks → Rising a n ks
rising_down a n [] h = tt
rising_down a n (i ∷ ks) h = (let z = h.0 in omega arith, h.1, h.2)

-- a word of m numbers that rise from a on, below n
abbrev Word : ℕ → ℕ → ℕ → List ℕ → Type 0
Word n m a js = Rising a n js × (length js ≡ m)

module _ (n : ℕ) where
  words_sound : (m k a : ℕ) → a + k ≡ n → All (Word n m a) (words_from m k a)
  words_sound zero k a e = All-cons (Word n 0 a) [] [] (tt, refl) (All-nil (Word n 0 a))
  words_sound (suc m) zero a e = All-nil (Word n (suc m) a)
  words_sound (suc m) (suc k) a e =
      All-append (Word n (suc m) a) (map (λ js. a ∷ js) (words_from m k (a + 1))) (words_from (suc m) k (a + 1))
      (All-map (Word n (suc m) a) (λ js. a ∷ js) (words_from m k (a + 1)) (All-weaker (Word n m (a + 1)) (λ js. Word n (suc m) a (a ∷ js)) (λ js w. ((omega arith, omega arith, w.0), ap suc w.1)) (words_from m k (a + 1)) (words_sound m k (a + 1) (omega arith))))
      (All-weaker (Word n (suc m) (a + 1)) (Word n (suc m) a) (λ js w. (rising_down a n js w.0, w.1)) (words_from (suc m) k (a + 1)) (words_sound (suc m) k (a + 1) (omega arith)))

  words_complete : (m k a : ℕ) → a + k ≡ n → (js : List ℕ) → Rising a n js → length js ≡ m → Contains (words_from m k a) js
  words_complete zero k a e [] r l = (0, omega arith, refl)
  words_complete zero k a e (i ∷ js) r l = (let z : ⊥ = omega arith in absurd z)
  words_complete (suc m) zero a e [] r l = (let z : ⊥ = omega arith in absurd z)
  words_complete (suc m) zero a e (i ∷ js) r l = (let p = r.0 in let q = r.1 in let z : ⊥ = omega arith in absurd z)
  words_complete (suc m) (suc k) a e [] r l = (let z : ⊥ = omega arith in absurd z)
  words_complete (suc m) (suc k) a e (i ∷ js) r l = elim (ℕ_discrete a i) [
    | yes s ↦ Contains-append_left (map (λ js. a ∷ js) (words_from m k (a + 1))) (words_from (suc m) k (a + 1)) (i ∷ js)
        (subst (λ z. Contains (map (λ js. a ∷ js) (words_from m k (a + 1))) (z ∷ js)) s
        (contains_map (λ js. a ∷ js) (words_from m k (a + 1)) js (words_complete m k (a + 1) (omega arith) js (subst (λ z. Rising (z + 1) n js) (sym s) r.2) (omega arith))))
    | no s ↦ Contains-append_right (map (λ js. a ∷ js) (words_from m k (a + 1))) (words_from (suc m) k (a + 1)) (i ∷ js)
        (words_complete (suc m) k (a + 1) (omega arith) (i ∷ js) ((let p = r.0 in omega arith), r.1, r.2) l)
  ]

  one_before : (m a : ℕ) (w v : List ℕ) → length w ≡ m → Word n (suc m) (a + 1) v → Less (a ∷ w) v
  one_before m a w [] l h = (let e = h.1 in let z : ⊥ = omega arith in absurd z)
  one_before m a w (b ∷ v) l h = at_once (let p = h.0.0 in omega arith) (let e = h.1 in omega arith)

  with_first : (m a : ℕ) (ws : List (List ℕ)) → All (Word n m (a + 1)) ws → AllPairs Less ws → AllPairs Less (map (λ js. a ∷ js) ws)
  with_first m a [] h p = p
  with_first m a (w ∷ ws) h p =
      AllPairs-cons Less (a ∷ w) (map (λ js. a ∷ js) ws)
      (All-map (Less (a ∷ w)) (λ js. a ∷ js) ws (λ k d l. later (pairs_head Less w ws p k d l) ((h 0 w (omega arith)).1 ∙ sym (h (suc k) d (omega arith)).1)))
      (with_first m a ws (λ k d l. h (suc k) d (omega arith)) (pairs_tail Less w ws p))

  words_rise : (m k a : ℕ) → a + k ≡ n → AllPairs Less (words_from m k a)
  words_rise zero k a e = λ i j d l h. (let z : ⊥ = omega arith in absurd z)
  words_rise (suc m) zero a e = λ i j d l h. (let z : ⊥ = omega arith in absurd z)
  words_rise (suc m) (suc k) a e =
      pairs_append Less (map (λ js. a ∷ js) (words_from m k (a + 1))) (words_from (suc m) k (a + 1))
      (with_first m a (words_from m k (a + 1)) (words_sound m k (a + 1) (omega arith)) (words_rise m k (a + 1) (omega arith)))
      (words_rise (suc m) k (a + 1) (omega arith))
      (All-map (λ x. All (Less x) (words_from (suc m) k (a + 1))) (λ js. a ∷ js) (words_from m k (a + 1)) (λ i d l.
      All-weaker (Word n (suc m) (a + 1)) (Less (a ∷ get_or (words_from m k (a + 1)) i d)) (λ v w. one_before m a (get_or (words_from m k (a + 1)) i d) v (words_sound m k (a + 1) (omega arith) i d l).1 w) (words_from (suc m) k (a + 1)) (words_sound (suc m) k (a + 1) (omega arith))))

  -- the words of 1 to m numbers
  abbrev To : ℕ → List ℕ → Type 0
  To m js = Rising 0 n js × (1 ≤ length js) × (length js ≤ m)

  pub to_sound : (m : ℕ) → All (To m) (words_to n m)
  to_sound zero = All-nil (To 0)
  to_sound (suc m) =
      All-append (To (suc m)) (words_to n m) (words_from (suc m) n 0)
      (All-weaker (To m) (To (suc m)) (λ js w. (w.0, w.1, (let l = w.2 in omega arith))) (words_to n m) (to_sound m))
      (All-weaker (Word n (suc m) 0) (To (suc m)) (λ js w. (w.0, (let l = w.1 in omega arith), (let l = w.1 in omega arith))) (words_from (suc m) n 0) (words_sound (suc m) n 0 (omega arith)))

  pub to_complete : (m : ℕ) (js : List ℕ) → Rising 0 n js → 1 ≤ length js → length js ≤ m → Contains (words_to n m) js
  to_complete zero js r o l = (let z : ⊥ = omega arith in absurd z)
  to_complete (suc m) js r o l = elim (dec_lt (length js) (suc m)) [
    | yes h ↦ Contains-append_left (words_to n m) (words_from (suc m) n 0) js (to_complete m js r o (omega arith))
    | no h ↦ Contains-append_right (words_to n m) (words_from (suc m) n 0) js (words_complete (suc m) n 0 (omega arith) js r (omega arith))
  ]

  pub to_rise : (m : ℕ) → AllPairs Less (words_to n m)
  to_rise zero = λ i j d l h. (let z : ⊥ = omega arith in absurd z)
  to_rise (suc m) =
      pairs_append Less (words_to n m) (words_from (suc m) n 0) (to_rise m) (words_rise (suc m) n 0 (omega arith))
      (All-weaker (To m) (λ x. All (Less x) (words_from (suc m) n 0)) (λ x t. All-weaker (Word n (suc m) 0) (Less x) (λ v w. shorter (let p = t.2 in let q = w.1 in omega arith)) (words_from (suc m) n 0) (words_sound (suc m) n 0 (omega arith))) (words_to n m) (to_sound m))
