-- Counting by m has exactly m classes: the states of the machine that counts are all reached, by
-- columns with a place each, and no two of them are alike.
use Rattle.std.proofs.Common.{◌≡◌, ℕ, zero, suc, ◌+◌, ◌-◌, ◌/◌, ◌≤◌, ◌<◌, ◌^◌, true, cond, eqb, ◌⊎◌, [], ◌∷◌, sym, refl, ◌∙◌, ap, inl, inr, pow-suc, arith}
use native.Mathlib.Decide.{dec_le}
use lib.Pow.{pow-lt}
use Rattle.words.specs.Runs.{run}
use Rattle.words.specs.Words.{Word, bit, Columns}
use Rattle.words.specs.Languages.{SameLeft}
use Rattle.kinds.specs.Counters.{turn, counter}
use Rattle.kinds.specs.declared.multiple.Multiple.{Multiple}
use Rattle.kinds.proofs.CounterLaws.{counter_right, stays, turned}
use Rattle.claims.specs.Claims.{Of, multiple}
use Rattle.automata.specs.Tables.{Collapsed, Connected, Exact, Table}
use Rattle.automata.proofs.Decisions.{eqb_true}
use Rattle.automata.proofs.Tables.{exact_many, exact_top, table_exact}
use Rattle.kind_classes.specs.Counted.{CountedClasses}

bit_self : (x : ℕ) → bit x (2 ^ x) ≡ true
bit_self zero = refl
bit_self (suc x) = let e : 2 ^ suc x / 2 ≡ 2 ^ x = omega (arith, pow-suc 2 x) in ap (bit x) e ∙ bit_self x

-- s columns with a place of x alone
abbrev ones : ℕ → ℕ → Word
ones x zero = []
ones x (suc s) = 2 ^ x ∷ ones x s

ones_columns : (k x s : ℕ) → x < k → Columns k (ones x s)
ones_columns k x zero h = tt
ones_columns k x (suc s) h = (pow-lt h, ones_columns k x s h)

module _ (k : ℕ) (c : Multiple) (hx : c.set < k) where
  abbrev m : ℕ
  m = c.remainder.modulus

  abbrev r : ℕ
  r = c.remainder.rest

  hr : r < m
  hr = c.remainder.below

  abbrev δ : ℕ → ℕ → ℕ
  δ = (counter c).step

  step_one : (q : ℕ) → δ q (2 ^ c.set) ≡ turn m q
  step_one q = ap (λ b. cond b (turn m q) q) (bit_self c.set)

  -- s places further on, round and round
  round : (s q : ℕ) → q < m → s ≤ m → (run δ q (ones c.set s) ≡ q + s) ⊎ (run δ q (ones c.set s) + m ≡ q + s)
  round zero q h g = inl (omega arith)
  round (suc s) q h g = elim (turned m q h) [
    | inl p ↦ (let f : run δ q (ones c.set (suc s)) ≡ run δ 0 (ones c.set s) = ap (λ z. run δ z (ones c.set s)) (step_one q ∙ p.1) in elim (round s 0 (omega arith) (omega arith)) [ inl e ↦ inr (omega arith) | inr e ↦ (let z : ⊥ = omega arith in absurd z) ])
    | inr p ↦ (let f : run δ q (ones c.set (suc s)) ≡ run δ (suc q) (ones c.set s) = ap (λ z. run δ z (ones c.set s)) (step_one q ∙ p.1) in elim (round s (suc q) (omega arith) (omega arith)) [ inl e ↦ inl (omega arith) | inr e ↦ inr (omega arith) ])
  ]

  run_stays : (s q : ℕ) → q < m → run δ q (ones c.set s) < m
  run_stays zero q h = h
  run_stays (suc s) q h = run_stays s (δ q (2 ^ c.set)) (stays m r c.set hr q (bit c.set (2 ^ c.set)) h)

  connected : Connected k m δ
  connected = record {
    start = omega (arith, hr);
    closed = λ q a h _. stays m r c.set hr q (bit c.set a) h;
    reached = λ q h. (ones c.set q, ones_columns k c.set q hx, elim (round q 0 (omega arith) (omega arith)) [ inl e ↦ omega arith | inr e ↦ (let z : ⊥ = omega arith in absurd z) ]);
  }

  collapsed : Collapsed k m δ (λ q. eqb q r)
  collapsed p q hp hq al = elim (dec_le p r) [ yes h ↦ by (r - p) (omega (arith, hr)) (inl (omega arith)) | no h ↦ by (m + r - p) (omega (arith, hr)) (inr (omega (arith, hr))) ]
    where
      by : (s : ℕ) → s ≤ m → (p + s ≡ r) ⊎ (p + s ≡ m + r) → p ≡ q
      by s hs e =
          let lr = hr in
          let lp = run_stays s p hp in
          let lq = run_stays s q hq in
          let rp = round s p hp hs in
          let rq = round s q hq hs in
          let ep : run δ p (ones c.set s) ≡ r = elim e [ inl g ↦ elim rp [ inl f ↦ omega arith | inr f ↦ omega arith ] | inr g ↦ elim rp [ inl f ↦ omega arith | inr f ↦ omega arith ] ] in
          let eq : run δ q (ones c.set s) ≡ r = (eqb_true (run δ q (ones c.set s)) r).0 (sym (al (ones c.set s) (ones_columns k c.set s hx)) ∙ (eqb_true (run δ p (ones c.set s)) r).1 ep) in
          elim rp [ inl f ↦ elim rq [ inl f' ↦ omega arith | inr f' ↦ omega arith ] | inr f ↦ elim rq [ inl f' ↦ omega arith | inr f' ↦ omega arith ] ]

  counted_table : Table k (Of (multiple c)) m δ (λ q. eqb q r)
  counted_table = record { connected = connected; says = λ w h. (counter_right c).says w }

  pub counted_exact : Exact k (SameLeft k (Of (multiple c))) m δ
  counted_exact = table_exact k (Of (multiple c)) m δ (λ q. eqb q r) counted_table collapsed

pub counted_classes : CountedClasses
counted_classes k n c hx = (
  λ f. elim (dec_le c.remainder.modulus n) [ yes h ↦ h | no h ↦ absurd (exact_many k (SameLeft k (Of (multiple c))) c.remainder.modulus n (counter c).step (counted_exact k c hx) (omega arith) f) ],
  λ h. exact_top k (SameLeft k (Of (multiple c))) c.remainder.modulus n (counter c).step (counted_exact k c hx) h,
)
