-- Classes numbered one after the other by their pairs: each step, and what stands at the end.
use Rattle.std.proofs.Common.{◌≡◌, ℕ, ◌+◌, ◌*◌, ◌<◌, ◌≤◌, max, List, length, get_or, set, sym, refl, ap, ◌∙◌, subst, arith, below_none, below_more}
use native.Mathlib.Decide.{ℕ_discrete}
use Rattle.std.proofs.lemmas.List.{get_or-set_same, get_or-set_other}
use Rattle.automata.specs.Product.{pair}
use Rattle.tables.specs.Numbering.{Numbered}
use Rattle.minimize.specs.Pairs.{Interned}
use Rattle.minimize.specs.Parts.{Parted}
use Rattle.minimize.proofs.PairsLaws.{pairs_none}

-- the classes before q have the numbers of their pairs (old, key), the others their old parts; each
-- number was first given to the class `first`
pub record Numbering (m : ℕ) (old key : ℕ → ℕ) (q : ℕ) (new first : ℕ → ℕ) (count : ℕ) (lefts rights index : List ℕ) : Type 0 where
  pub few : count ≤ q
  pub pairs : Numbered m m lefts rights index count
  pub given : (p : ℕ) → p < q → new p < count
  pub lefts_are : (p : ℕ) → p < q → get_or lefts (new p) 0 ≡ old p
  pub rights_are : (p : ℕ) → p < q → get_or rights (new p) 0 ≡ key p
  pub rest : (p : ℕ) → q ≤ p → new p ≡ old p
  pub first_below : (i : ℕ) → i < count → first i < q
  pub first_in : (i : ℕ) → i < count → new (first i) ≡ i
  pub first_least : (p : ℕ) → p < q → first (new p) ≤ p
  pub rising : (i j : ℕ) → i < j → j < count → first i < first j

module _ {m : ℕ} {old key : ℕ → ℕ} where
  pub numbering_none : {first : ℕ → ℕ} {lefts rights index : List ℕ} → Numbering m old key 0 old first 0 lefts rights index
  numbering_none {first} = record {
    few = omega arith;
    pairs = pairs_none;
    given = below_none _;
    lefts_are = below_none _;
    rights_are = below_none _;
    rest = λ p h. refl;
    first_below = below_none _;
    first_in = below_none _;
    first_least = below_none _;
    rising = λ i j h. below_none (λ j. first i < first j) j;
  }

  -- class q gets the number i of its pair; if that is a new number, then q is its first class
  module _ {q : ℕ} {new first : ℕ → ℕ} {count : ℕ} {lefts rights index : List ℕ} (n : Numbering m old key q new first count lefts rights index)
      {lefts' rights' index' : List ℕ} {i : ℕ} (e : Interned m count (old q) (key q) lefts rights lefts' rights' index' i)
      (new' : ℕ → ℕ) (here : new' q ≡ i) (else : (p : ℕ) → (p ≡ q → ⊥) → new' p ≡ new p)
      (first' : ℕ → ℕ) (kept : (j : ℕ) → j < count → first' j ≡ first j) (begun : i ≡ count → first' i ≡ q) where
    before : (p : ℕ) → p < q → new' p ≡ new p
    before p h = else p (omega arith)

    -- a number is one of the old, or the new one
    part : (P : ℕ → Type 0) → ((j : ℕ) → j < count → P j) → (i ≡ count → P i) → (j : ℕ) → j < max count (i + 1) → P j
    part P o y j h =
        let b = e.number in
        elim (ℕ_discrete j i) [ yes s ↦ elim (ℕ_discrete i count) [ yes t ↦ subst P (sym s) (y t) | no d ↦ o j (omega arith) ] | no d ↦ o j (omega arith) ]

    first_before : (j : ℕ) → j < count → first' j < q
    first_before j h = rw (kept j h) (n.first_below j h)

    old_in : (j : ℕ) → j < count → new' (first' j) ≡ j
    old_in j h = ap new' (kept j h) ∙ before (first j) (n.first_below j h) ∙ n.first_in j h

    old_least : (p : ℕ) → p < q → first' (new' p) ≤ p
    old_least p h = let k = kept (new p) (n.given p h) in rw (before p h, k) (n.first_least p h)

    here_least : first' (new' q) ≤ q
    here_least = rw here (part (λ j. first' j ≤ q) (λ j h. (let b = first_before j h in omega arith)) (λ s. (let b = begun s in omega arith)) i (omega arith))

    rises : (a b : ℕ) → a < b → b < max count (i + 1) → first' a < first' b
    rises a b h g = part (λ b. a < b → first' a < first' b)
        (λ b g h. (let ha : a < count = omega arith in rw (kept a ha, kept b g) (n.rising a b h g)))
        (λ s h. (let ha : a < count = omega arith in let f = first_before a ha in let y = begun s in omega arith))
        b g h

    numbering_more : Numbering m old key (q + 1) new' first' (max count (i + 1)) lefts' rights' index'
    numbering_more =
        let b = e.number in
        let w = n.few in
        record {
          few = omega arith;
          pairs = e.pairs;
          given = below_more _ q (λ p h. (let s = before p h in let g = n.given p h in omega arith)) (omega arith);
          lefts_are = below_more _ q (λ p h. ap (λ j. get_or lefts' j 0) (before p h) ∙ e.lefts_kept (new p) (n.given p h) ∙ n.lefts_are p h) (ap (λ j. get_or lefts' j 0) here ∙ e.left);
          rights_are = below_more _ q (λ p h. ap (λ j. get_or rights' j 0) (before p h) ∙ e.rights_kept (new p) (n.given p h) ∙ n.rights_are p h) (ap (λ j. get_or rights' j 0) here ∙ e.right);
          rest = λ p h. else p (omega arith) ∙ n.rest p (omega arith);
          first_below = part (λ j. first' j < q + 1) (λ j h. (let f = first_before j h in omega arith)) (λ s. (let y = begun s in omega arith));
          first_in = part (λ j. new' (first' j) ≡ j) old_in (λ s. ap new' (begun s) ∙ here);
          first_least = below_more _ q old_least here_least;
          rising = rises;
        }

  -- the same with the numbers in memory
  module _ {q : ℕ} (cur firsts : List ℕ) {count : ℕ} {lefts rights index : List ℕ} (n : Numbering m old key q (λ p. get_or cur p 0) (λ i. get_or firsts i 0) count lefts rights index)
      {lefts' rights' index' : List ℕ} {y i : ℕ} (e : Interned m count (get_or cur q 0) y lefts rights lefts' rights' index' i) (k : y ≡ key q) (room : q < length cur) where
    of_pair : Interned m count (old q) (key q) lefts rights lefts' rights' index' i
    of_pair = rw (sym (n.rest q (omega arith)), sym k) e

    pub numbering_known : {firsts' : List ℕ} {count' : ℕ} → (i ≡ count → ⊥) → firsts' ≡ firsts → count' ≡ count → Numbering m old key (q + 1) (λ p. get_or (set cur q i) p 0) (λ j. get_or firsts' j 0) count' lefts' rights' index'
    numbering_known {count' = count'} d f c =
        let b = e.number in
        let r : count' ≡ max count (i + 1) = omega arith in
        rw (f, r) (numbering_more n of_pair
        (λ p. get_or (set cur q i) p 0) (get_or-set_same cur q i 0 room) (λ p d. get_or-set_other cur q p i 0 d)
        (λ j. get_or firsts j 0) (λ j h. refl) (λ g. absurd (d g)))

    pub numbering_new : {firsts' : List ℕ} {count' : ℕ} → i ≡ count → firsts' ≡ set firsts count q → count' ≡ count + 1 → count < length firsts → Numbering m old key (q + 1) (λ p. get_or (set cur q i) p 0) (λ j. get_or firsts' j 0) count' lefts' rights' index'
    numbering_new {count' = count'} g f c h =
        let r : count' ≡ max count (i + 1) = omega arith in
        rw (f, r) (numbering_more n of_pair
        (λ p. get_or (set cur q i) p 0) (get_or-set_same cur q i 0 room) (λ p d. get_or-set_other cur q p i 0 d)
        (λ j. get_or (set firsts count q) j 0) (λ j l. get_or-set_other firsts count j q 0 (omega arith)) (λ z. ap (λ j. get_or (set firsts count q) j 0) z ∙ get_or-set_same firsts count q 0 h))

  -- all classes have their numbers
  pub numbering_end : {q : ℕ} {new first : ℕ → ℕ} {count : ℕ} {lefts rights index : List ℕ} → Numbering m old key q new first count lefts rights index → q ≡ m → Parted m (λ q. pair (old q) (key q)) new first count
  numbering_end {q} {new} {first} {count} {lefts} {rights} {index} n e = whole (rw e at n)
    where
      place : (n : Numbering m old key m new first count lefts rights index) (p : ℕ) → p < m → get_or index (old p * m + key p) 0 ≡ new p
      place n p h = rw (sym (n.lefts_are p h), sym (n.rights_are p h)) (n.pairs.number (new p) (n.given p h))

      whole : Numbering m old key m new first count lefts rights index → Parted m (λ q. pair (old q) (key q)) new first count
      whole n = record {
        parts = record { below = n.given; first_below = n.first_below; first_in = n.first_in; first_least = n.first_least; rising = n.rising };
        same = λ p q hp hq e. (let a : old p ≡ old q = cc in let b : key p ≡ key q = cc in sym (place n p hp) ∙ ap (λ x. get_or index (x * m + key p) 0) a ∙ ap (λ y. get_or index (old q * m + y) 0) b ∙ place n q hq);
        told = λ p q hp hq e. (let a = n.lefts_are p hp in let b = n.lefts_are q hq in let c = n.rights_are p hp in let d = n.rights_are q hq in cc);
      }
