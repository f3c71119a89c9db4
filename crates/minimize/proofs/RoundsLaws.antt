-- Rounds of refining a partition, column by column, until it is stable.
use Rattle.std.proofs.Common.{◌≡◌, ℕ, ◌+◌, ◌^◌, ◌<◌, ◌≤◌, Bool, [], ◌∷◌, sym, ap, ◌∙◌, subst, arith}
use native.Mathlib.Decide.{ℕ_discrete}
use Rattle.automata.specs.Joined.{Joined, Stable}
use Rattle.automata.proofs.Counting.{pigeon}
use Rattle.automata.proofs.Joined.{stable_joined}
use Rattle.automata.specs.Product.{pair}
use Rattle.automata.specs.Tables.{Alike}
use Rattle.splitting.specs.Repeats.{Repeat}
use Rattle.minimize.specs.Parts.{Partition, Parted}
use Rattle.minimize.proofs.PartsLaws.{parts_same, parts_start, parts_alone, refined_same, refined_more}

-- a partition that never parts classes that are alike, and respects acceptance
pub record Coarse (k m : ℕ) (δ : ℕ → ℕ → ℕ) (f : ℕ → Bool) (cls first : ℕ → ℕ) (n : ℕ) : Type 0 where
  pub parts : Partition m cls first n
  pub whole : (p q : ℕ) → p < m → q < m → Alike k δ f p q → cls p ≡ cls q
  pub accepts : (p q : ℕ) → p < m → q < m → cls p ≡ cls q → f p ≡ f q

-- cur is cls split by the columns before j: classes are together exactly if they were and each of
-- these columns leads them into one part of cls
pub record Refined (m : ℕ) (δ : ℕ → ℕ → ℕ) (cls : ℕ → ℕ) (j : ℕ) (cur : ℕ → ℕ) : Type 0 where
  pub same : (p q : ℕ) → p < m → q < m → cls p ≡ cls q → ((a : ℕ) → a < j → cls (δ p a) ≡ cls (δ q a)) → cur p ≡ cur q
  pub old : (p q : ℕ) → p < m → q < m → cur p ≡ cur q → cls p ≡ cls q
  pub steps : (p q a : ℕ) → p < m → q < m → a < j → cur p ≡ cur q → cls (δ p a) ≡ cls (δ q a)

-- classes that are alike accept alike
pub coarse_start : {m : ℕ} {f : ℕ → Bool} {cls first : ℕ → ℕ} {n : ℕ} → Parted m f cls first n → (k : ℕ) (δ : ℕ → ℕ → ℕ) → Coarse k m δ f cls first n
coarse_start p k δ = record { parts = p.parts; whole = λ q r hq hr a. p.same q r hq hr (a [] tt); accepts = p.told }

-- no column yet
pub refined_none : {m : ℕ} {cls cur : ℕ → ℕ} → ((q : ℕ) → q < m → cur q ≡ cls q) → (δ : ℕ → ℕ → ℕ) → Refined m δ cls 0 cur
refined_none e δ = record {
  same = λ p q hp hq s _. e p hp ∙ s ∙ sym (e q hq);
  old = λ p q hp hq s. sym (e p hp) ∙ s ∙ e q hq;
  steps = λ p q a hp hq h. (let z : ⊥ = omega arith in absurd z);
}

-- every column of a word leads to a class
closed : (k : ℕ) {m width : ℕ} {δ : ℕ → ℕ → ℕ} → width ≡ 2 ^ k → ((q a : ℕ) → q < m → a < width → δ q a < m) → (q a : ℕ) → q < m → a < 2 ^ k → δ q a < m
closed k wide below q a h g = below q a h (omega arith)

module _ {k m : ℕ} {δ : ℕ → ℕ → ℕ} {f : ℕ → Bool} where
  -- partitions that are copied
  pub coarse_copied : {cls first : ℕ → ℕ} {n : ℕ} → Coarse k m δ f cls first n → (cur : ℕ → ℕ) → ((q : ℕ) → q < m → cur q ≡ cls q) → Coarse k m δ f cur first n
  coarse_copied c cur e = record {
    parts = parts_same c.parts cur e;
    whole = λ p q hp hq a. e p hp ∙ c.whole p q hp hq a ∙ sym (e q hq);
    accepts = λ p q hp hq s. c.accepts p q hp hq (sym (e p hp) ∙ s ∙ e q hq);
  }

  pub joined_copied : {cls first : ℕ → ℕ} {n : ℕ} → Joined k m δ f cls first n → 0 < m → (cur : ℕ → ℕ) → ((q : ℕ) → q < m → cur q ≡ cls q) → Joined k m δ f cur first n
  joined_copied {first = first} j h cur e = record {
    start = e 0 h ∙ j.start;
    cls_below = λ q hq. rw (e q hq) (j.cls_below q hq);
    rep_below = j.rep_below;
    cls_rep = λ i hi. e (first i) (j.rep_below i hi) ∙ j.cls_rep i hi;
    least = λ q hq. rw (e q hq) (j.least q hq);
    rising = j.rising;
    alike = λ p q hp hq s. j.alike p q hp hq (sym (e p hp) ∙ s ∙ e q hq);
    apart = λ p q hp hq a. e p hp ∙ j.apart p q hp hq a ∙ sym (e q hq);
  }

  -- no more joined classes than classes
  pub joined_few : {cls first : ℕ → ℕ} {n : ℕ} → Joined k m δ f cls first n → n ≤ m
  joined_few {first = first} {n = n} j = pigeon n m first j.rep_below (λ i l hi hl e. (let a = j.cls_rep i hi in let b = j.cls_rep l hl in cc))

  module _ {width : ℕ} (wide : width ≡ 2 ^ k) (below : (q a : ℕ) → q < m → a < width → δ q a < m) where
    pub stable_done : {cls first : ℕ → ℕ} {n : ℕ} → Partition m cls first n → Stable k m δ f cls → 0 < m → Joined k m δ f cls first n
    stable_done {cls} {first} {n} p s h = stable_joined k m δ f cls (closed k wide below) s first n (parts_start p h) p.below p.first_below p.first_in p.first_least p.rising

    -- where every class is alone there is nothing left to split
    pub done_alone : {cls first : ℕ → ℕ} {n : ℕ} → Coarse k m δ f cls first n → n ≡ m → 0 < m → Joined k m δ f cls first n
    done_alone {cls} c e = stable_done c.parts (record {
      whole = c.whole;
      accepts = c.accepts;
      steps = λ q s a hq hs ha g. ap (λ p. cls (δ p a)) (parts_alone c.parts e q s hq hs g);
    })

    -- a round that begins with cls
    module _ {cls first₀ : ℕ → ℕ} {n₀ : ℕ} (c : Coarse k m δ f cls first₀ n₀) where
      -- one column more
      module _ {cur : ℕ → ℕ} {j : ℕ} (r : Refined m δ cls j cur) {cur' first : ℕ → ℕ} {n : ℕ} (p : Parted m (λ q. pair (cur q) (cls (δ q j))) cur' first n) where
        was : (q s : ℕ) → q < m → s < m → cur' q ≡ cur' s → cur q ≡ cur s
        was q s hq hs e = let t = p.told q s hq hs e in cc

        leads : (q s : ℕ) → q < m → s < m → cur' q ≡ cur' s → cls (δ q j) ≡ cls (δ s j)
        leads q s hq hs e = let t = p.told q s hq hs e in cc

        pub refined_column : Refined m δ cls (j + 1) cur'
        refined_column = record {
          same = λ q s hq hs e g. (let a = r.same q s hq hs e (λ b l. g b (omega arith)) in let b = g j (omega arith) in p.same q s hq hs (cc));
          old = λ q s hq hs e. r.old q s hq hs (was q s hq hs e);
          steps = λ q s a hq hs l e. elim (ℕ_discrete a j) [ yes z ↦ subst (λ b. cls (δ q b) ≡ cls (δ s b)) (sym z) (leads q s hq hs e) | no d ↦ r.steps q s a hq hs (omega arith) (was q s hq hs e) ];
        }

        -- classes that are alike have successors that are alike, so no column parts them
        pub coarse_column : j < 2 ^ k → Coarse k m δ f cur' first n
        coarse_column h = record {
          parts = p.parts;
          whole = λ q s hq hs a. refined_column.same q s hq hs (c.whole q s hq hs a) (λ b g. (let l : b < 2 ^ k = omega arith in c.whole (δ q b) (δ s b) (closed k wide below q b hq l) (closed k wide below s b hs l) (λ x hx. a (b ∷ x) (l, hx))));
          accepts = λ q s hq hs e. c.accepts q s hq hs (refined_column.old q s hq hs e);
        }

      -- a column that leads every class where an earlier one does tells apart nothing that is not
      -- told apart yet
      pub refined_skip : {cur : ℕ → ℕ} {j : ℕ} → Refined m δ cls j cur → Repeat m δ j → Refined m δ cls (j + 1) cur
      refined_skip {j = j} r s = record {
        same = λ p q hp hq e g. r.same p q hp hq e (λ a l. g a (omega arith));
        old = r.old;
        steps = λ p q a hp hq l e. elim (ℕ_discrete a j) [
          | yes z ↦ ap (λ a. cls (δ p a)) z ∙ ap cls (s.alike p hp) ∙ r.steps p q s.b hp hq s.earlier e ∙ sym (ap cls (s.alike q hq)) ∙ sym (ap (λ a. cls (δ q a)) z)
          | no d ↦ r.steps p q a hp hq (omega arith) e
        ];
      }

      -- all columns
      module _ {cur : ℕ → ℕ} {j : ℕ} (r : Refined m δ cls j cur) {first : ℕ → ℕ} {n : ℕ} (d : Coarse k m δ f cur first n) where
        -- a round never makes fewer parts
        pub round_more : n₀ ≤ n
        round_more = refined_more c.parts r.old d.parts.below

        -- one that made as many has changed nothing, so the partition is stable
        pub done_same : 2 ^ k ≤ j → n ≡ n₀ → 0 < m → Joined k m δ f cur first n
        done_same e s = stable_done d.parts (record {
          whole = d.whole;
          accepts = d.accepts;
          steps = λ p q a hp hq ha g. (let l : a < j = omega arith in refined_same c.parts r.old d.parts.below s (δ p a) (δ q a) (closed k wide below p a hp ha) (closed k wide below q a hq ha) (r.steps p q a hp hq l g));
        })
