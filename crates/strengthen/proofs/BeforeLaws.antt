-- What is pushed, and that all that come before the end are found.
use Rattle.std.proofs.Common.{◌≡◌, ℕ, zero, suc, ◌+◌, ◌-◌, ◌<◌, ◌≤◌, ◌⊎◌, ◌↔◌, Bool, true, false, ltb, IsTrue, List, [], ◌∷◌, ◌++◌, map, length, get_or, All, Contains, filter, Option, Some, None, refl, sym, ap, ap₂, ◌∙◌, subst, inl, inr, arith, append_assoc, append-nil}
use Rattle.std.specs.Bool.{Decides}
use Rattle.std.proofs.lemmas.Bool.Decides.{Decides-ltb}
use Rattle.std.proofs.lemmas.Bool.{cond_both, true≢false}
use native.Mathlib.Decide.{dec_lt}
use Rattle.std.proofs.lemmas.List.{map-append, map-id}
use Rattle.std.proofs.lemmas.List.Elements.{filter-append, All-nil, All-cons, All-weaker, All-contains, All-filter, filter_passes, Contains-append_right}
use Rattle.std.proofs.lemmas.List.Kept.{AllPairs-filter}
use Rattle.words.specs.Order.{Less, shorter}
use Rattle.words.proofs.OrderLaws.{less_irrefl, less_trans, less_total, less_at}
use Rattle.strengthening.specs.Choices.{Rising}
use Rattle.strengthening.proofs.SearchLaws.{less_length}
use Rattle.strengthen.specs.Before.{Before, Tells, AreBefore, words_from, words_to, behind}
use Rattle.strengthen.proofs.RisingLaws.{to_sound, to_complete, to_rise}

-- words of different lengths, and words that first differ at place i
pub by_length : (u v : List ℕ) → (length u ≡ length v → ⊥) → IsTrue (ltb (length u) (length v)) ↔ Less u v
by_length u v n = (λ t. shorter ((Decides-ltb (length u) (length v)).0 t), λ l. (Decides-ltb (length u) (length v)).1 (let h = less_length l in omega arith))

pub by_number : (u v : List ℕ) (i : ℕ) → length u ≡ length v → i < length u → ((j : ℕ) → j < i → get_or u j 0 ≡ get_or v j 0) → (get_or u i 0 ≡ get_or v i 0 → ⊥) → IsTrue (ltb (get_or u i 0) (get_or v i 0)) ↔ Less u v
by_number u v i e h s n = (
  λ t. less_at u v i e h s ((Decides-ltb (get_or u i 0) (get_or v i 0)).0 t),
  λ l. elim (dec_lt (get_or u i 0) (get_or v i 0)) [
    | yes p ↦ (Decides-ltb (get_or u i 0) (get_or v i 0)).1 p
    | no p ↦ absurd (less_irrefl u (less_trans u v u l (less_at v u i (sym e) (omega arith) (λ j g. sym (s j g)) (omega arith))))
  ],
)

pub same_words : (u v : List ℕ) → u ≡ v → Less u v → ⊥
same_words u v e l = less_irrefl v (subst (λ z. Less z v) e l)

-- one next number further
behind_one : (is : List ℕ) (c : ℕ) (ws : List (List ℕ)) → behind is (map (λ js. c ∷ js) ws) ≡ behind (is ++ (c ∷ [])) ws
behind_one is c [] = refl
behind_one is c (w ∷ ws) = ap₂ (λ x xs. x ∷ xs) (sym (append_assoc is (c ∷ []) w)) (behind_one is c ws)

module _ (p : List ℕ → Bool) where
  next : (is : List ℕ) (m k c : ℕ) → filter p (behind is (words_from (suc m) (suc k) c)) ≡ filter p (behind (is ++ (c ∷ [])) (words_from m k (c + 1))) ++ filter p (behind is (words_from (suc m) k (c + 1)))
  next is m k c =
      ap (filter p) (map-append (λ js. is ++ js) (map (λ js. c ∷ js) (words_from m k (c + 1))) (words_from (suc m) k (c + 1)) ∙
      ap (λ z. z ++ behind is (words_from (suc m) k (c + 1))) (behind_one is c (words_from m k (c + 1)))) ∙
      filter-append p (behind (is ++ (c ∷ [])) (words_from m k (c + 1))) (behind is (words_from (suc m) k (c + 1)))

  pub next_number : (is : List ℕ) (t n c : ℕ) → 0 < t → c < n →
      filter p (behind is (words_from t (n - c) c)) ≡ filter p (behind (is ++ (c ∷ [])) (words_from (t - 1) (n - (c + 1)) (c + 1))) ++ filter p (behind is (words_from t (n - (c + 1)) (c + 1)))
  next_number is zero n c o l = (let z : ⊥ = omega arith in absurd z)
  next_number is (suc m) n c o l =
      let e : suc (n - (c + 1)) ≡ n - c = omega arith in
      let f : m ≡ suc m - 1 = omega arith in
      subst (λ y. filter p (behind is (words_from (suc m) (n - c) c)) ≡ filter p (behind (is ++ (c ∷ [])) (words_from y (n - (c + 1)) (c + 1))) ++ filter p (behind is (words_from (suc m) (n - (c + 1)) (c + 1)))) f
      (subst (λ z. filter p (behind is (words_from (suc m) z c)) ≡ filter p (behind (is ++ (c ∷ [])) (words_from m (n - (c + 1)) (c + 1))) ++ filter p (behind is (words_from (suc m) (n - (c + 1)) (c + 1)))) e (next is m (n - (c + 1)) c))

  -- what is there and what is left are all
  pub step : (is : List ℕ) (t n c : ℕ) (old new all : List (List ℕ)) → 0 < t → c < n →
      old ++ filter p (behind is (words_from t (n - c) c)) ≡ all →
      new ≡ old ++ filter p (behind (is ++ (c ∷ [])) (words_from (t - 1) (n - (c + 1)) (c + 1))) →
      new ++ filter p (behind is (words_from t (n - (c + 1)) (c + 1))) ≡ all
  step is t n c old new all o l h e =
      ap (λ z. z ++ filter p (behind is (words_from t (n - (c + 1)) (c + 1)))) e ∙
      append_assoc old (filter p (behind (is ++ (c ∷ [])) (words_from (t - 1) (n - (c + 1)) (c + 1)))) (filter p (behind is (words_from t (n - (c + 1)) (c + 1)))) ∙
      ap (λ z. old ++ z) (sym (next_number is t n c o l)) ∙ h

  no_more : (is : List ℕ) (t n c : ℕ) → 0 < t → n ≤ c → filter p (behind is (words_from t (n - c) c)) ≡ []
  no_more is zero n c o l = (let z : ⊥ = omega arith in absurd z)
  no_more is (suc m) n c o l = (let e : 0 ≡ n - c = omega arith in subst (λ z. filter p (behind is (words_from (suc m) z c)) ≡ []) e refl)

  pub finished : (is : List ℕ) (t n c : ℕ) (old all : List (List ℕ)) → 0 < t → n ≤ c → old ++ filter p (behind is (words_from t (n - c) c)) ≡ all → old ≡ all
  finished is t n c old all o l h = sym (append-nil old) ∙ ap (λ z. old ++ z) (sym (no_more is t n c o l)) ∙ h

  -- a word that is complete is pushed if it comes before the end
  pub pushed : (is : List ℕ) (t k a : ℕ) (old : List (List ℕ)) → t ≡ 0 → p is ≡ true → old ++ (is ∷ []) ≡ old ++ filter p (behind is (words_from t k a))
  pushed is t k a old e h = (
      let f : filter p (is ∷ []) ≡ is ∷ [] = cond_both (p is) (is ∷ []) [] (λ z. z ≡ is ∷ []) (λ _. refl) (λ g. absurd (true≢false (sym h ∙ g))) in
      ap (λ z. old ++ z) (sym f ∙ ap (λ z. filter p (z ∷ [])) (sym (append-nil is)) ∙ ap (λ z. filter p (behind is (words_from z k a))) (sym e))
      )

  pub passed : (is : List ℕ) (t k a : ℕ) (old : List (List ℕ)) → t ≡ 0 → p is ≡ false → old ≡ old ++ filter p (behind is (words_from t k a))
  passed is t k a old e h = (
      let f : filter p (is ∷ []) ≡ [] = cond_both (p is) (is ∷ []) [] (λ z. z ≡ []) (λ g. absurd (true≢false (sym g ∙ h))) (λ _. refl) in
      sym (append-nil old) ∙ ap (λ z. old ++ z) (sym f ∙ ap (λ z. filter p (z ∷ [])) (sym (append-nil is)) ∙ ap (λ z. filter p (behind is (words_from z k a))) (sym e))
      )

  -- those of one number more are found
  pub longer : (n t m : ℕ) (old new : List (List ℕ)) → 1 ≤ t → t + 1 ≡ suc m → ((k : ℕ) → t ≡ suc k → old ≡ filter p (words_to n k)) → new ≡ old ++ filter p (behind [] (words_from t (n - 0) 0)) → new ≡ filter p (words_to n m)
  longer n zero m old new o e h q = (let z : ⊥ = omega arith in absurd z)
  longer n (suc k) m old new o e h q =
      let f : suc k ≡ m = omega arith in
      let g : n - 0 ≡ n = omega arith in
      let all : new ≡ filter p (words_to n (suc k)) =
      q ∙ ap (λ z. z ++ filter p (behind [] (words_from (suc k) (n - 0) 0))) (h k refl) ∙ ap (λ z. filter p (words_to n k) ++ filter p (behind [] (words_from (suc k) z 0))) g ∙
      ap (λ z. filter p (words_to n k) ++ filter p z) (map-id (words_from (suc k) n 0)) ∙ sym (filter-append p (words_to n k) (words_from (suc k) n 0)) in
      subst (λ z. new ≡ filter p (words_to n z)) f all

  contains_filter : (xs : List (List ℕ)) (x : List ℕ) → Contains xs x → p x ≡ true → Contains (filter p xs) x
  contains_filter xs x c h = All-contains (λ y. p y ≡ true → Contains (filter p xs) y) xs x (all xs) c h
    where
      all : (xs : List (List ℕ)) → All (λ y. p y ≡ true → Contains (filter p xs) y) xs
      all [] = All-nil (λ y. p y ≡ true → Contains [] y)
      all (z ∷ xs) =
          cond_both (p z) (z ∷ filter p xs) (filter p xs) (λ l. All (λ y. p y ≡ true → Contains l y) (z ∷ xs))
          (λ e. All-cons (λ y. p y ≡ true → Contains (z ∷ filter p xs) y) z xs (λ _. (0, omega arith, refl)) (All-weaker (λ y. p y ≡ true → Contains (filter p xs) y) (λ y. p y ≡ true → Contains (z ∷ filter p xs) y) (λ y f g. Contains-append_right (z ∷ []) (filter p xs) y (f g)) xs (all xs)))
          (λ e. All-cons (λ y. p y ≡ true → Contains (filter p xs) y) z xs (λ g. absurd (true≢false (sym g ∙ e))) (all xs))

  -- all of them
  pub are_before : (n : ℕ) (e : Option (List ℕ)) (m : ℕ) → Tells e p → m ≤ 8 → ((js : List ℕ) → length js ≤ 8 → Before e js → length js ≤ m) → AreBefore n e (filter p (words_to n m))
  are_before n e m d l far = record {
    sound = λ k x h. (
        let t = All-filter p (λ js. Rising 0 n js × (1 ≤ length js) × (length js ≤ m)) (words_to n m) (to_sound n m) k x h in
        let b = filter_passes p (words_to n m) k x h in
        record { choice = (t.0, (let q = t.2 in omega arith)); some = λ f. (let o = t.1 in let g = ap length f in omega arith); before = (d _).0 b }
        );
    complete = λ js b. contains_filter (words_to n m) js (to_complete n m js b.choice.0 (some js b.some) (far js b.choice.1 b.before)) ((d js).1 b.before);
    rising = AllPairs-filter Less p (words_to n m) (to_rise n m);
  }
    where
      some : (js : List ℕ) → (js ≡ [] → ⊥) → 1 ≤ length js
      some [] h = absurd (h refl)
      some (i ∷ js) h = omega arith

-- a test that tells what comes before the end
pub test : Option (List ℕ) → List ℕ → Bool
test None js = true
test (Some e) js = elim (less_total js e) [ inl l ↦ true | inr r ↦ false ]

pub tells : (e : Option (List ℕ)) → Tells e (test e)
unfolding test
tells None js = (λ _. tt, λ _. refl)
tells (Some e) js = at (less_total js e)
  where
    at : (s : Less js e ⊎ ((js ≡ e) ⊎ Less e js)) → Decides (elim s [ inl l ↦ true | inr r ↦ false ]) (Less js e)
    at (inl l) = (λ _. l, λ _. refl)
    at (inr (inl q)) = (λ h. absurd (true≢false (sym h)), λ l. absurd (same_words js e q l))
    at (inr (inr g)) = (λ h. absurd (true≢false (sym h)), λ l. absurd (less_irrefl js (less_trans js e js l g)))
