-- Chains of the rows of each bucket: what a row that is filed changes, and where a walk along a
-- chain ends.
use Rattle.std.proofs.Common.{◌≡◌, ℕ, ◌+◌, ◌-◌, ◌*◌, ◌/◌, ◌%◌, ◌^◌, ◌<◌, ◌≤◌, ◌&&◌, eqb, ltb, List, length, get_or, set, sym, ap, ◌∙◌, subst, arith}
use native.Mathlib.Decide.{ℕ_discrete, dec_lt}
use lib.Bits.{bit_xor}
use Rattle.std.proofs.lemmas.Nat.{xor_lt, div-add-mod'}
use Rattle.std.proofs.lemmas.List.{get_or-set_same, get_or-set_other, length-set}
use Rattle.std.proofs.lemmas.Bool.{cond-true, cond-false, lt-ltb, le-ltb, eq-eqb, ne_eqb, and_from, and_left, and_right}
use Rattle.bitsets.specs.Bitrows.{row_at}
use Rattle.bitsets.specs.Intern.{bucket_of, Last, first_of, Chains, Interned}

-- what a bucket's head says
module _ (heads buckets : List ℕ) (n h : ℕ) where
  pub first_there : get_or heads h 0 < n → get_or buckets (get_or heads h 0) 0 ≡ h → first_of heads buckets n h ≡ get_or heads h 0 + 1
  unfolding first_of
  first_there l e =
      let i = get_or heads h 0 in
      cond-true (ltb i n && eqb (get_or buckets i 0) h) (i + 1) 0 (and_from (ltb i n) (eqb (get_or buckets i 0) h) (lt-ltb i n l) (eq-eqb (get_or buckets i 0) h e))

  pub first_past : n ≤ get_or heads h 0 → first_of heads buckets n h ≡ 0
  unfolding first_of
  first_past l =
      let i = get_or heads h 0 in
      cond-false (ltb i n && eqb (get_or buckets i 0) h) (i + 1) 0 (and_left (ltb i n) (eqb (get_or buckets i 0) h) (le-ltb i n l))

  pub first_other : (get_or buckets (get_or heads h 0) 0 ≡ h → ⊥) → first_of heads buckets n h ≡ 0
  unfolding first_of
  first_other e =
      let i = get_or heads h 0 in
      cond-false (ltb i n && eqb (get_or buckets i 0) h) (i + 1) 0 (and_right (ltb i n) (eqb (get_or buckets i 0) h) (ne_eqb (get_or buckets i 0) h e))

pub mixed_below : (h x : ℕ) → h < 2 ^ 32 → x < 2 ^ 32 → bit_xor ((h * 2654435761 + x) / 2 ^ 32) ((h * 2654435761 + x) % 2 ^ 32) < 2 ^ 32
mixed_below h x l g = xor_lt 32 ((h * 2654435761 + x) / 2 ^ 32) ((h * 2654435761 + x) % 2 ^ 32) (omega arith) (omega arith)

pub mod_small : (a n : ℕ) → a % n ≤ a
mod_small a n = omega (arith, div-add-mod' a n)

-- what is said of the first n rows depends on their buckets only
last_kept : (buckets buckets' : List ℕ) (h n c : ℕ) → ((j : ℕ) → j < n → get_or buckets' j 0 ≡ get_or buckets j 0) → Last buckets h n c → Last buckets' h n c
last_kept buckets buckets' h n c keep l = record {
  low = l.low;
  filed = λ o. keep (c - 1) (omega (arith, l.low)) ∙ l.filed o;
  no_later = λ j g o e. l.no_later j g o (sym (keep j o) ∙ e);
}

-- a further row in another bucket changes nothing
last_other : (buckets : List ℕ) (h n c : ℕ) → (get_or buckets n 0 ≡ h → ⊥) → Last buckets h n c → Last buckets h (n + 1) c
last_other buckets h n c other l = record {
  low = omega (arith, l.low);
  filed = l.filed;
  no_later = λ j g o e. elim (ℕ_discrete j n) [ yes p ↦ other (subst (λ z. get_or buckets z 0 ≡ h) p e) | no p ↦ l.no_later j g (omega arith) e ];
}

-- and one in this bucket is the last
last_here : (buckets : List ℕ) (h n : ℕ) → get_or buckets n 0 ≡ h → Last buckets h (n + 1) (n + 1)
last_here buckets h n e = record {
  low = omega arith;
  filed = λ _. (let z : n + 1 - 1 ≡ n = omega arith in subst (λ z. get_or buckets z 0 ≡ h) (sym z) e);
  no_later = λ j g o _. (let z : ⊥ = omega arith in z);
}

last_none : (buckets : List ℕ) (h : ℕ) → Last buckets h 0 0
last_none buckets h = record { low = omega arith; filed = λ o. (let z : ⊥ = omega arith in absurd z); no_later = λ j g o _. (let z : ⊥ = omega arith in z) }

-- row n filed under bucket h
module _ (heads links buckets : List ℕ) (n h : ℕ) (ch : Chains heads links buckets n) (lh : h < length heads) (ll : n < length links) (lb : n < length buckets) where
  bucket_here : get_or (set buckets n h) n 0 ≡ h
  bucket_here = get_or-set_same buckets n h 0 lb

  bucket_before : (j : ℕ) → j < n → get_or (set buckets n h) j 0 ≡ get_or buckets j 0
  bucket_before j o = get_or-set_other buckets n j h 0 (omega arith)

  -- another bucket's head says what it said
  first_kept : (g : ℕ) → (g ≡ h → ⊥) → first_of (set heads h n) (set buckets n h) (n + 1) g ≡ first_of heads buckets n g
  first_kept g ne = elim (dec_lt i n) [
    | yes o ↦ elim (ℕ_discrete (get_or buckets i 0) g) [
      | yes e ↦ first_there heads' buckets' (n + 1) g (rw head_same (omega arith)) (at_head (bucket_before i o ∙ e)) ∙ ap (λ z. z + 1) head_same ∙ sym (first_there heads buckets n g o e)
      | no e ↦ first_other heads' buckets' (n + 1) g (λ f. e (sym (bucket_before i o) ∙ from_head f)) ∙ sym (first_other heads buckets n g e)
    ]
    | no o ↦ elim (ℕ_discrete i n) [
      | yes p ↦ first_other heads' buckets' (n + 1) g (λ f. ne (sym (from_head f) ∙ ap (λ z. get_or buckets' z 0) p ∙ bucket_here)) ∙ sym (first_past heads buckets n g (omega arith))
      | no p ↦ first_past heads' buckets' (n + 1) g (rw head_same (omega arith)) ∙ sym (first_past heads buckets n g (omega arith))
    ]
  ]
    where
      i : ℕ
      i = get_or heads g 0

      heads' : List ℕ
      heads' = set heads h n

      buckets' : List ℕ
      buckets' = set buckets n h

      head_same : get_or heads' g 0 ≡ i
      head_same = get_or-set_other heads h g n 0 ne

      at_head : get_or buckets' i 0 ≡ g → get_or buckets' (get_or heads' g 0) 0 ≡ g
      at_head e = ap (λ z. get_or buckets' z 0) head_same ∙ e

      from_head : get_or buckets' (get_or heads' g 0) 0 ≡ g → get_or buckets' i 0 ≡ g
      from_head e = sym (ap (λ z. get_or buckets' z 0) head_same) ∙ e

  head_more : (g : ℕ) → g < length heads → Last (set buckets n h) g (n + 1) (first_of (set heads h n) (set buckets n h) (n + 1) g)
  head_more g l = elim (ℕ_discrete g h) [
    | yes e ↦
        let f : get_or (set heads h n) g 0 ≡ n = ap (λ z. get_or (set heads h n) z 0) e ∙ get_or-set_same heads h n 0 lh in
        let b : get_or (set buckets n h) n 0 ≡ g = bucket_here ∙ sym e in
        let t = first_there (set heads h n) (set buckets n h) (n + 1) g (rw f (omega arith)) (ap (λ z. get_or (set buckets n h) z 0) f ∙ b) in
        subst (Last (set buckets n h) g (n + 1)) (sym (t ∙ ap (λ z. z + 1) f)) (last_here (set buckets n h) g n b)
    | no e ↦ subst (Last (set buckets n h) g (n + 1)) (sym (first_kept g e)) (last_other (set buckets n h) g n (first_of heads buckets n g) (λ b. e (sym b ∙ bucket_here)) (last_kept buckets (set buckets n h) g n (first_of heads buckets n g) bucket_before (ch.head g l)))
  ]

  link_more : (i : ℕ) → i < n + 1 → Last (set buckets n h) (get_or (set buckets n h) i 0) i (get_or (set links n (first_of heads buckets n h)) i 0)
  link_more i o = elim (ℕ_discrete i n) [
    | yes e ↦
        let P : ℕ → Type 0 = λ i. Last (set buckets n h) (get_or (set buckets n h) i 0) i (get_or (set links n (first_of heads buckets n h)) i 0) in
        subst P (sym e) (rw (bucket_here, get_or-set_same links n (first_of heads buckets n h) 0 ll) (last_kept buckets (set buckets n h) h n (first_of heads buckets n h) bucket_before (ch.head h lh)))
    | no e ↦
        let l : i < n = omega arith in
        rw (bucket_before i l, get_or-set_other links n i (first_of heads buckets n h) 0 e) (last_kept buckets (set buckets n h) (get_or buckets i 0) i (get_or links i 0) (λ j g. bucket_before j (omega arith)) (ch.link i l))
  ]

  pub chains_more : Chains (set heads h n) (set links n (first_of heads buckets n h)) (set buckets n h) (n + 1)
  chains_more = record { head = λ g l. head_more g (omega (arith, length-set heads h n)); link = link_more }

-- a walk along the chain of bucket h: row n is none of the rows at and above `next`, of which the
-- one before is in bucket h
pub record Walk (sets : List ℕ) (w n : ℕ) (buckets : List ℕ) (h next : ℕ) : Type 0 where
  pub low : next ≤ n
  pub filed : 0 < next → get_or buckets (next - 1) 0 ≡ h
  pub ruled_out : (j : ℕ) → next ≤ j → j < n → row_at sets w j ≡ row_at sets w n → ⊥

module _ (sets : List ℕ) (w n : ℕ) (heads links buckets : List ℕ) (h : ℕ) (x : Interned sets w n heads links buckets) (hash : h ≡ bucket_of (row_at sets w n) (length heads)) where
  -- a row that is the same is in the same bucket
  same_bucket : (j : ℕ) → j < n → row_at sets w j ≡ row_at sets w n → get_or buckets j 0 ≡ h
  same_bucket j o e = x.filed j o ∙ ap (λ r. bucket_of r (length heads)) e ∙ sym hash

  pub walk_start : (next : ℕ) → h < length heads → next ≡ first_of heads buckets n h → Walk sets w n buckets h next
  walk_start next l e =
      let t : Last buckets h n next = subst (Last buckets h n) (sym e) (x.chains.head h l) in
      record { low = t.low; filed = t.filed; ruled_out = λ j g o f. t.no_later j g o (same_bucket j o f) }

  module _ (next : ℕ) (v : Walk sets w n buckets h next) (more : 0 < next) where
    pub walk_falls : get_or links (next - 1) 0 < next
    walk_falls = omega (arith, (x.chains.link (next - 1) (omega (arith, v.low))).low)

    pub walk_next : (row_at sets w (next - 1) ≡ row_at sets w n → ⊥) → Walk sets w n buckets h (get_or links (next - 1) 0)
    walk_next apart = record {
      low = omega (arith, t.low, v.low);
      filed = λ o. t.filed o ∙ v.filed more;
      ruled_out = λ j g o e. elim (dec_lt j (next - 1)) [
        | yes l ↦ t.no_later j g l (same_bucket j o e ∙ sym (v.filed more))
        | no l ↦ elim (ℕ_discrete j (next - 1)) [
          | yes f ↦ apart (subst (λ z. row_at sets w z ≡ row_at sets w n) f e)
          | no f ↦ v.ruled_out j (omega arith) o e
        ]
      ];
    }
      where
        t : Last buckets (get_or buckets (next - 1) 0) (next - 1) (get_or links (next - 1) 0)
        t = x.chains.link (next - 1) (omega (arith, v.low))

-- no rows are interned whatever the memory holds
pub interned_start : (sets : List ℕ) (w : ℕ) (heads links buckets : List ℕ) → Interned sets w 0 heads links buckets
interned_start sets w heads links buckets = record {
  chains = record { head = λ h _. subst (Last buckets h 0) (sym (first_past heads buckets 0 h (omega arith))) (last_none buckets h); link = λ i o. (let z : ⊥ = omega arith in absurd z) };
  filed = λ i o. (let z : ⊥ = omega arith in absurd z);
}

-- what is interned depends on the first n rows only
pub interned_kept : (sets sets' : List ℕ) (w n : ℕ) (heads links buckets : List ℕ) → ((j : ℕ) → j < n → row_at sets' w j ≡ row_at sets w j) → Interned sets w n heads links buckets → Interned sets' w n heads links buckets
interned_kept sets sets' w n heads links buckets keep x = record {
  chains = x.chains;
  filed = λ i o. x.filed i o ∙ ap (λ r. bucket_of r (length heads)) (sym (keep i o));
}

-- row n filed under its bucket is interned
pub interned_more : (sets : List ℕ) (w n : ℕ) (heads links buckets heads' links' buckets' : List ℕ) (h : ℕ) → Interned sets w n heads links buckets → Chains heads' links' buckets' (n + 1) → buckets' ≡ set buckets n h → n < length buckets → length heads' ≡ length heads → h ≡ bucket_of (row_at sets w n) (length heads) → Interned sets w (n + 1) heads' links' buckets'
interned_more sets w n heads links buckets heads' links' buckets' h x ch eb lb lh hash = record { chains = ch; filed = filed' }
  where
    filed' : (i : ℕ) → i < n + 1 → get_or buckets' i 0 ≡ bucket_of (row_at sets w i) (length heads')
    filed' i o = elim (ℕ_discrete i n) [
      | yes e ↦ ap (λ z. get_or buckets' z 0) e ∙ ap (λ b. get_or b n 0) eb ∙ get_or-set_same buckets n h 0 lb ∙ hash ∙ ap (bucket_of (row_at sets w n)) (sym lh) ∙ ap (λ z. bucket_of (row_at sets w z) (length heads')) (sym e)
      | no e ↦ ap (λ b. get_or b i 0) eb ∙ get_or-set_other buckets n i h 0 e ∙ x.filed i (omega arith) ∙ ap (bucket_of (row_at sets w i)) (sym lh)
    ]
