-- Partitions: how many parts there are, and that a refinement with as many parts is the same
-- partition.
use Rattle.std.proofs.Common.{◌≡◌, ℕ, suc, ◌<◌, ◌≤◌, sym, ap, ◌∙◌, arith}
use native.Mathlib.Decide.{ℕ_discrete}
use Rattle.automata.proofs.Counting.{pigeon}
use Rattle.automata.proofs.Exploring.{upd, upd_here, upd_else}
use Rattle.minimize.specs.Parts.{Partition}

module _ {m : ℕ} {cls first : ℕ → ℕ} {n : ℕ} (p : Partition m cls first n) where
  -- no more parts than classes
  pub parts_few : n ≤ m
  parts_few = pigeon n m first p.first_below (λ i j hi hj e. (let a = p.first_in i hi in let b = p.first_in j hj in cc))

  -- a copy is a partition too
  pub parts_same : (cur : ℕ → ℕ) → ((q : ℕ) → q < m → cur q ≡ cls q) → Partition m cur first n
  parts_same cur e = record {
    below = λ q h. rw (e q h) (p.below q h);
    first_below = p.first_below;
    first_in = λ i h. e (first i) (p.first_below i h) ∙ p.first_in i h;
    first_least = λ q h. rw (e q h) (p.first_least q h);
    rising = p.rising;
  }

  -- class 0 is in part 0
  pub parts_start : 0 < m → cls 0 ≡ 0
  parts_start h = elim (ℕ_discrete (cls 0) 0) [
    | yes e ↦ e
    | no d ↦
        let b = p.below 0 h in
        let l = p.first_least 0 h in
        let r = p.rising 0 (cls 0) (omega arith) b in
        let z : ⊥ = omega arith in absurd z
  ]

  module _ {cur : ℕ → ℕ} {o : ℕ} (refines : (q r : ℕ) → q < m → r < m → cur q ≡ cur r → cls q ≡ cls r) (below : (q : ℕ) → q < m → cur q < o) where
    -- parts of cls have different parts of cur in them
    first_apart : (i j : ℕ) → i < n → j < n → cur (first i) ≡ cur (first j) → i ≡ j
    first_apart i j hi hj e =
        let s = refines (first i) (first j) (p.first_below i hi) (p.first_below j hj) e in
        let a = p.first_in i hi in
        let b = p.first_in j hj in
        cc

    -- a refinement has as many parts or more
    pub refined_more : n ≤ o
    refined_more = pigeon n o (λ i. cur (first i)) (λ i h. below (first i) (p.first_below i h)) first_apart

    -- if it has as many, then each class is in the part of the first class of its old part: else
    -- that part would have two in it, one too many
    refined_first : o ≡ n → (q : ℕ) → q < m → cur q ≡ cur (first (cls q))
    refined_first e q h = elim (ℕ_discrete (cur q) (cur (first (cls q)))) [ yes s ↦ s | no d ↦ absurd (too_many d) ]
      where
        at : ℕ → ℕ
        at = upd (λ i. cur (first i)) n (cur q)

        old : (i : ℕ) → (i ≡ n → ⊥) → at i ≡ cur (first i)
        old i d = upd_else (λ i. cur (first i)) n (cur q) i d

        here : at n ≡ cur q
        here = upd_here (λ i. cur (first i)) n (cur q)

        at_below : (i : ℕ) → i < suc n → at i < o
        at_below i g = elim (ℕ_discrete i n) [
          | yes s ↦ (let b = below q h in rw (s, here) b)
          | no d ↦ rw (old i d) (below (first i) (p.first_below i (omega arith)))
        ]

        new_apart : (cur q ≡ cur (first (cls q)) → ⊥) → (i : ℕ) → i < n → cur q ≡ cur (first i) → ⊥
        new_apart d i g s =
            let c = refines q (first i) h (p.first_below i g) s in
            let b = p.first_in i g in
            let z : cls q ≡ i = c ∙ b in
            d (s ∙ ap (λ j. cur (first j)) (sym z))

        at_apart : (cur q ≡ cur (first (cls q)) → ⊥) → (i j : ℕ) → i < suc n → j < suc n → at i ≡ at j → i ≡ j
        at_apart d i j gi gj s = elim (ℕ_discrete i n) [
          | yes a ↦ elim (ℕ_discrete j n) [
            | yes b ↦ a ∙ sym b
            | no b ↦ absurd (new_apart d j (omega arith) (sym here ∙ ap at (sym a) ∙ s ∙ old j b))
          ]
          | no a ↦ elim (ℕ_discrete j n) [
            | yes b ↦ absurd (new_apart d i (omega arith) (sym here ∙ ap at (sym b) ∙ sym s ∙ old i a))
            | no b ↦ first_apart i j (omega arith) (omega arith) (sym (old i a) ∙ s ∙ old j b)
          ]
        ]

        too_many : (cur q ≡ cur (first (cls q)) → ⊥) → ⊥
        too_many d = let z = pigeon (suc n) o at at_below (at_apart d) in omega arith

    -- a refinement with as many parts is the same partition
    pub refined_same : o ≡ n → (q r : ℕ) → q < m → r < m → cls q ≡ cls r → cur q ≡ cur r
    refined_same e q r hq hr s = refined_first e q hq ∙ ap (λ i. cur (first i)) s ∙ sym (refined_first e r hr)

  -- as many parts as classes: every class is alone
  pub parts_alone : n ≡ m → (q r : ℕ) → q < m → r < m → cls q ≡ cls r → q ≡ r
  parts_alone e q r hq hr s = refined_same {cur = λ i. i} {o = m} (λ i j _ _ z. ap cls z) (λ i h. h) (sym e) q r hq hr s
