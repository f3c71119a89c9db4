-- Words read off the lists of a search: one column more for each number on the way back.
use Rattle.std.proofs.Common.{◌≡◌, ℕ, zero, suc, ◌+◌, ◌<◌, ◌≤◌, List, [], ◌∷◌, ◌++◌, length, get_or, drop, set, sym, refl, ap, ◌∙◌, append_assoc, append-nil, arith}
use Rattle.std.proofs.lemmas.List.{length_push, drop-set, drop_all, nil_from_length}
use Rattle.shortest.specs.Spell.{last_columns, word, Falls}

module _ (prev via : List ℕ) where
  columns_start : (n : ℕ) → last_columns prev via n 0 ≡ []
  unfolding last_columns
  columns_start zero = refl
  columns_start (suc n) = refl

  -- from j columns on, more change nothing
  columns_enough : (n m j : ℕ) → Falls prev j → j ≤ n → j ≤ m → last_columns prev via n j ≡ last_columns prev via m j
  unfolding last_columns
  columns_enough n m zero f h g = columns_start n ∙ sym (columns_start m)
  columns_enough zero m (suc j) f h g = let z : ⊥ = omega arith in absurd z
  columns_enough (suc n) zero (suc j) f h g = let z : ⊥ = omega arith in absurd z
  columns_enough (suc n) (suc m) (suc j) f h g =
      let p = f (suc j) (omega arith) (omega arith) in
      ap (λ w. w ++ (get_or via (suc j) 0 ∷ [])) (columns_enough n m (get_or prev (suc j) 0) (λ i a b. f i a (omega arith)) (omega arith) (omega arith))

  pub word_start : word prev via 0 ≡ []
  unfolding word last_columns
  word_start = refl

  pub word_step : (j : ℕ) → 0 < j → Falls prev j → word prev via j ≡ word prev via (get_or prev j 0) ++ (get_or via j 0 ∷ [])
  unfolding word last_columns
  word_step zero h f = let z : ⊥ = omega arith in absurd z
  word_step (suc j) h f =
      let p = f (suc j) h (omega arith) in
      ap (λ w. w ++ (get_or via (suc j) 0 ∷ [])) (columns_enough j (get_or prev (suc j) 0) (get_or prev (suc j) 0) (λ i a b. f i a (omega arith)) (omega arith) (omega arith))

  pub length_step : (j : ℕ) → 0 < j → Falls prev j → length (word prev via j) ≡ length (word prev via (get_or prev j 0)) + 1
  length_step j h f = ap length (word_step j h f) ∙ length_push (word prev via (get_or prev j 0)) (get_or via j 0)

  -- a number whose word has columns is above 0
  pub word_above : (j : ℕ) → 0 < length (word prev via j) → 0 < j
  word_above zero h = let e = ap length word_start in omega arith
  word_above (suc j) h = omega arith

  -- one column of the word of number i, written at its end before what is written already
  pub write_step : (out : List ℕ) (i n m : ℕ) → n ≡ m + 1 → n ≤ length out → n ≡ length (word prev via i) → Falls prev i → word prev via (get_or prev i 0) ++ drop m (set out m (get_or via i 0)) ≡ word prev via i ++ drop n out
  write_step out i n m e h g f =
      let a = word_above i (omega arith) in
      ap (λ d. word prev via (get_or prev i 0) ++ d) (drop-set out m (get_or via i 0) (omega arith) ∙ ap (λ t. get_or via i 0 ∷ drop t out) (sym e))
      ∙ sym (append_assoc (word prev via (get_or prev i 0)) (get_or via i 0 ∷ []) (drop n out))
      ∙ ap (λ w. w ++ drop n out) (sym (word_step i a f))

  -- nothing is left to write before the word of a number without columns
  pub write_end : (out : List ℕ) (i n : ℕ) → n ≡ 0 → n ≡ length (word prev via i) → word prev via i ++ drop n out ≡ out
  write_end out i n e h = let z : length (word prev via i) ≡ 0 = omega arith in rw (e, nil_from_length (word prev via i) z)

  -- at the start nothing is written
  pub write_start : (out : List ℕ) (j : ℕ) → word prev via j ++ drop (length out) out ≡ word prev via j
  write_start out j = rw (drop_all (length out) out (omega arith), append-nil (word prev via j))
