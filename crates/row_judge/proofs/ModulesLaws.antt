-- Rows in out: how long a row is with its own set; two rows one behind the other; what a write behind a row leaves of it.
use Rattle.std.proofs.Common.{◌≡◌, ℕ, suc, ◌+◌, ◌%◌, ◌^◌, ◌<◌, ◌≤◌, List, [], ◌∷◌, ◌++◌, length, take, drop, map, sym, refl, ap, ◌∙◌, arith, append_assoc, length-append}
use Rattle.std.proofs.lemmas.List.{take_at, drop_at, take-append-le, take-take, length-take-le}
use borrow.Rule.Slice.PartMut.{put_mid}
use Rattle.words.specs.Words.{Word, Columns}
use Rattle.rows.specs.RowClaims.{marked}
use Rattle.rows.proofs.ModulesLaws.{unmarked}

pub marked_length : (b : ℕ) (w : Word) → length (marked b w) ≡ length w
marked_length b [] = refl
marked_length b (a ∷ w) = ap suc (marked_length b w)

-- two rows u and v of a and b columns, and what stood behind them
module _ (a b : ℕ) (u v o : List ℕ) (i : a ≡ length u) (j : b ≡ length v) where
  pub rows_first : take a (u ++ (v ++ drop (a + b) o)) ≡ u
  rows_first = take_at u (v ++ drop (a + b) o) a (sym i)

  pub rows_second : take b (drop a (u ++ (v ++ drop (a + b) o))) ≡ v
  rows_second = ap (take b) (drop_at u (v ++ drop (a + b) o) a (sym i)) ∙ take_at v (drop (a + b) o) b (sym j)

  pub rows_behind : drop (a + b) (u ++ (v ++ drop (a + b) o)) ≡ drop (a + b) o
  rows_behind = ap (drop (a + b)) (sym (append_assoc u v (drop (a + b) o))) ∙ drop_at (u ++ v) (drop (a + b) o) (a + b) (length-append u v ∙ omega arith)

  -- the rows, once what is written is their columns without the row's own set
  rows_written : (k : ℕ) (p q o' : List ℕ) → p ≡ marked k u → q ≡ marked k v → Columns k u → Columns k v → o' ≡ map (λ c. c % 2 ^ k) p ++ (map (λ c. c % 2 ^ k) q ++ drop (length p + length q) o) → o' ≡ u ++ (v ++ drop (a + b) o)
  rows_written k p q o' f g hu hv e =
      let m : map (λ c. c % 2 ^ k) p ≡ u = ap (map (λ c. c % 2 ^ k)) f ∙ unmarked k u hu in
      let n : map (λ c. c % 2 ^ k) q ≡ v = ap (map (λ c. c % 2 ^ k)) g ∙ unmarked k v hv in
      let l : length p + length q ≡ a + b = omega (arith, ap length f, ap length g, marked_length k u, marked_length k v) in
      e ∙ cc (m, n, l)

  pub rows_stand : (k : ℕ) (p q o' : List ℕ) → p ≡ marked k u → q ≡ marked k v → Columns k u → Columns k v → o' ≡ map (λ c. c % 2 ^ k) p ++ (map (λ c. c % 2 ^ k) q ++ drop (length p + length q) o) → (take a o' ≡ u) × (take b (drop a o') ≡ v) × (drop (a + b) o' ≡ drop (a + b) o)
  rows_stand k p q o' f g hu hv e =
      let w = rows_written k p q o' f g hu hv e in
      (ap (take a) w ∙ rows_first, ap (λ o'. take b (drop a o')) w ∙ rows_second, ap (drop (a + b)) w ∙ rows_behind)

-- The words of the one call are x and what is behind them, z; then those of the other, y, are written over all but the first n. The first row stands in the first n.
module _ (a b n k : ℕ) (x y z : List ℕ) (g : n ≤ length x) where
  front : length (take n (x ++ z)) ≡ n
  front = length-take-le n (x ++ z) (let l : n ≤ length (x ++ z) = omega (arith, length-append x z) in l)

  pub first_kept : a ≤ n → take a (take n (put_mid n k (x ++ z) y)) ≡ take a x
  first_kept h =
      ap (take a) (take_at (take n (x ++ z)) _ n front) ∙ take-take a n (x ++ z) h ∙ take-append-le a x z (omega arith)

  pub first_length : a ≤ n → length (take a (take n (put_mid n k (x ++ z) y))) ≡ a
  first_length h = ap length (first_kept h) ∙ length-take-le a x (omega arith)

  pub second_there : b ≤ length y → take b (drop n (put_mid n k (x ++ z) y)) ≡ take b y
  second_there h = ap (take b) (drop_at (take n (x ++ z)) _ n front) ∙ take-append-le b y _ h

  pub second_length : b ≤ length y → length (take b (drop n (put_mid n k (x ++ z) y))) ≡ b
  second_length h = ap length (second_there h) ∙ length-take-le b y h
