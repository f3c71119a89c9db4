-- The automaton of a formula's claim tells of which rows it holds.
use Rattle.std.proofs.Common.{◌≡◌, ℕ, zero, suc, ◌+◌, ◌^◌, ◌<◌, ◌≤◌, T, ◌↔◌, List, [], ◌∷◌, ◌++◌, ◌∙◌, ap, take, get_or, length, true, refl, arith, pow-suc, pow_mono}
use Rattle.std.proofs.lemmas.List.{take_more}
use Rattle.words.specs.Words.{Word, Columns}
use Rattle.words.specs.Runs.{run}
use Rattle.claims.specs.Claims.{C, Of, and1}
use Rattle.formulas.specs.declared.formula.Formula.{Formula}
use Rattle.translation.specs.Translation.{claim}
use Rattle.rows.specs.RowClaims.{same_number, is_row, marked, Tells}
use Rattle.rows.specs.Limits.{row_numbers}
use Rattle.rows.proofs.Telling.{tells}
use Rattle.keeping.specs.Breaches.{names_ok}
use Rattle.keeping.specs.Kept.{OfRow}
use Rattle.keeping.proofs.SaysLaws.{row_says}
use Rattle.minimal.specs.Minimal.{Minimal}
use Rattle.minimal.specs.declared.automaton.Automaton.{Automaton}
use Rattle.strengthen.specs.Marks.{Recognizes}

-- the claim of a row of which the formula holds
abbrev pub row_claim : ℕ → Formula → C
row_claim b d = and1 (is_row b) (claim d (row_numbers b same_number))

formula_tells : (b : ℕ) → 1 ≤ b → (d : Formula) → T (names_ok b d) → Tells b (row_claim b d) (OfRow b d)
formula_tells b one d t = tells b one (claim d (row_numbers b same_number)) (OfRow b d) (λ v w f hw g. row_says b d t v w f g)

marked_columns : (b k : ℕ) (w : Word) → b < k → Columns b w → Columns k (marked b w)
marked_columns b k [] l h = tt
marked_columns b k (a ∷ w) l h = (let m : 2 ^ suc b ≤ 2 ^ k = pow_mono l in omega (arith, pow-suc 2 b), marked_columns b k w l h.1)

pub recognizes : (b k : ℕ) → 1 ≤ b → b < k → (d : Formula) → T (names_ok b d) → (t : Automaton) → Minimal k (row_claim b d) t → Recognizes b d t
recognizes b k one l d n t m = record {
  sets = (let e = m.sets in omega arith);
  start = m.smallest.table.connected.start;
  says = λ w h. (
      let s = m.smallest.table.says (marked b w) (marked_columns b k w l h) in
      let o = (formula_tells b one d n).of_row w h in
      (λ e. o.0 (s.0 e), λ p. s.1 (o.1 p)));
}

-- a word leads one column further
pub run_further : (δ : ℕ → ℕ → ℕ) (q : ℕ) (w : Word) (a : ℕ) → run δ q (w ++ (a ∷ [])) ≡ δ (run δ q w) a
run_further δ q [] a = refl
run_further δ q (c ∷ w) a = run_further δ (δ q c) w a

pub marked_further : (b : ℕ) (w : Word) (a : ℕ) → marked b (w ++ (a ∷ [])) ≡ marked b w ++ ((2 ^ b + a) ∷ [])
marked_further b [] a = refl
marked_further b (c ∷ w) a = ap (λ z. (2 ^ b + c) ∷ z) (marked_further b w a)

pub small : (b : ℕ) → b < 12 → 2 ^ b < 4096
small b h = (let m : 2 ^ b ≤ 2 ^ 11 = pow_mono {j = 11} (omega arith) in omega arith)

pub column_at : (b : ℕ) (w : Word) → Columns b w → (i : ℕ) → i < length w → get_or w i 0 < 2 ^ b
column_at b [] h i l = let z : ⊥ = omega arith in absurd z
column_at b (a ∷ w) h zero l = h.0
column_at b (a ∷ w) h (suc i) l = column_at b w h.1 i (omega arith)

-- the first modules and one more
pub one_further : (δ : ℕ → ℕ → ℕ) (b : ℕ) (w : Word) (i : ℕ) → i < length w → run δ 0 (marked b (take (i + 1) w)) ≡ δ (run δ 0 (marked b (take i w))) (2 ^ b + get_or w i 0)
one_further δ b w i h =
    let t : take (i + 1) w ≡ take i w ++ (get_or w i 0 ∷ []) = take_more w i 0 h in
    ap (λ z. run δ 0 (marked b z)) t ∙ ap (λ z. run δ 0 z) (marked_further b (take i w) (get_or w i 0)) ∙ run_further δ 0 (marked b (take i w)) (2 ^ b + get_or w i 0)
