-- Rows that are written row by row, column by column.
use Rattle.std.proofs.Common.{◌≡◌, ℕ, ◌+◌, ◌*◌, ◌^◌, ◌<◌, Bool, List, [], ◌∷◌, ◌++◌, length, slice_index, inl, inr, sym, ap, ◌∙◌, subst, arith, length-append}
use Rattle.std.proofs.lemmas.List.{get_or_append_left, get_or_push}
use Rattle.std.proofs.lemmas.Nat.{mul-le}
use native.Mathlib.Decide.{dec_lt}
use Rattle.automata.specs.Search.{Before}
use Rattle.narrowing.specs.Columns.{size, extract}
use Rattle.narrowing.specs.Wide.{wide}
use Rattle.narrowing.proofs.ColumnsLaws.{extract_below}
use Rattle.tables.specs.Cells.{cell, column, entry}

-- rows of W columns are written up to column a of row q, and lead as f says
pub record Written (rows : List ℕ) (W : ℕ) (f : ℕ → ℕ → ℕ) (q a : ℕ) : Type 0 where
  pub many : length rows ≡ q * W + a
  pub leads : (p b : ℕ) → Before p b q a → b < W → entry rows W p b ≡ f p b

-- a place before column a of row q
before_place : (W p b q a : ℕ) → b < W → Before p b q a → p * W + b < q * W + a
before_place W p b q a h (inl l) = omega (arith, mul-le (p + 1) W q W (omega arith) (omega arith))
before_place W p b q a h (inr l) = let (e, g) = l in subst (λ z. z * W + b < q * W + a) (sym e) (omega arith)

kept : (rows : List ℕ) (x W p b q a : ℕ) → length rows ≡ q * W + a → b < W → Before p b q a → entry (rows ++ (x ∷ [])) W p b ≡ entry rows W p b
unfolding entry cell column
kept rows x W p b q a e h l =
    let g = before_place W p b q a h l in
    get_or_append_left rows (x ∷ []) 0 (p * W + b) (omega arith)

put : (rows : List ℕ) (x W q a : ℕ) → length rows ≡ q * W + a → entry (rows ++ (x ∷ [])) W q a ≡ x
unfolding entry cell column
put rows x W q a e = get_or_push rows x 0 (q * W + a) e

pub written_start : (W : ℕ) (f : ℕ → ℕ → ℕ) → Written [] W f 0 0
written_start W f = record {
  many = omega arith;
  leads = λ p b l h. elim l [ inl g ↦ (let z : ⊥ = omega arith in absurd z) | inr g ↦ (let (e, i) = g in let z : ⊥ = omega arith in absurd z) ];
}

-- one column more
pub written_next : (rows : List ℕ) (x W : ℕ) (f : ℕ → ℕ → ℕ) (q a : ℕ) → Written rows W f q a → x ≡ f q a → Written (rows ++ (x ∷ [])) W f q (a + 1)
written_next rows x W f q a w e = record {
  many = length-append rows (x ∷ []) ∙ omega (arith, w.many);
  leads = λ p b l h. elim l [
    | inl g ↦ kept rows x W p b q a w.many h (inl g) ∙ w.leads p b (inl g) h
    | inr g ↦ by p b g.0 g.1 h
  ];
}
  where
    by : (p b : ℕ) → p ≡ q → b < a + 1 → b < W → entry (rows ++ (x ∷ [])) W p b ≡ f p b
    by p b i l h = elim (dec_lt b a) [
      | yes g ↦ kept rows x W p b q a w.many h (inr (i, g)) ∙ w.leads p b (inr (i, g)) h
      | no n ↦ (let j : b ≡ a = omega arith in rw (i, j) (put rows x W q a w.many ∙ e))
    ]

-- the next row
pub written_row : (rows : List ℕ) (W : ℕ) (f : ℕ → ℕ → ℕ) (q a : ℕ) → Written rows W f q a → a ≡ W → Written rows W f (q + 1) 0
written_row rows W f q a w e = record {
  many = omega (arith, w.many, row q W);
  leads = λ p b l h. elim l [
    | inl g ↦ elim (dec_lt p q) [
      | yes i ↦ w.leads p b (inl i) h
      | no n ↦ w.leads p b (inr (omega arith, omega arith)) h
    ]
    | inr g ↦ (let (i, j) = g in let z : ⊥ = omega arith in absurd z)
  ];
}
  where
    row : (q W : ℕ) → (q + 1) * W ≡ q * W + W
    row q W = omega arith

-- Columns that are those of all sets, narrowed, and rows by them: each column of all sets leads
-- where its narrow one does.
module _ (k : ℕ) (s : ℕ → Bool) (columns : List ℕ) (many : length columns ≡ 2 ^ k) (narrow : (a : ℕ) → a < 2 ^ k → slice_index columns a ≡ extract k s a) where
  pub narrow_below : (v W : ℕ) → v ≡ size k s → W ≡ 2 ^ v → (a : ℕ) → a < length columns → slice_index columns a < W
  narrow_below v W e w a h =
      let g : a < 2 ^ k = subst (λ n. a < n) many h in
      subst (λ n. n < W) (sym (narrow a g)) (subst (λ n. extract k s a < n) (sym (w ∙ ap (λ z. 2 ^ z) e)) (extract_below k s a))

  pub widened : (rows : List ℕ) (t : ℕ → ℕ → ℕ) (m : ℕ) → ((q a : ℕ) → q < m → a < length columns → entry rows (length columns) q a ≡ t q (slice_index columns a)) → (q a : ℕ) → q < m → a < 2 ^ k → entry rows (2 ^ k) q a ≡ wide k s t q a
  widened rows t m h q a i g = ap (λ n. entry rows n q a) (sym many) ∙ h q a i (subst (λ n. a < n) (sym many) g) ∙ ap (t q) (narrow a g)
