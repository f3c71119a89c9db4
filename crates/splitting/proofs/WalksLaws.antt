-- Classes marked one after the other: walking down a list, and list after list.
use Rattle.std.proofs.Common.{◌≡◌, ℕ, ◌+◌, ◌-◌, ◌<◌, ◌≤◌, ◌⊎◌, List, get_or, sym, ap, ◌∙◌, subst, inl, inr, arith}
use native.Mathlib.Decide.{ℕ_discrete, dec_lt}
use Rattle.splitting.specs.Comers.{Comers}
use Rattle.splitting.specs.Places.{Arranged, Touched, Grown, Walked}
use Rattle.splitting.proofs.ComersLaws.{link_falls}

module _ {m n : ℕ} {part begin end : List ℕ} where
  -- nothing new is marked
  pub grown_none : (Also : ℕ → Type 0) {order place cut touched : List ℕ} {tail : ℕ} → Arranged m n order place part begin end cut → Touched m n begin cut touched 0 tail → ((p : ℕ) → p < m → Also p → ⊥) → Grown m n Also place part begin end cut order place cut touched tail
  grown_none Also a t none = record { arranged = a; touched = t; old = λ q h e. e; new = λ q h e. absurd (none q h e); only = λ q h e. inl e }

  -- the same classes, said in another way
  pub grown_as : (Also Also' : ℕ → Type 0) {place cut order' place' cut' touched' : List ℕ} {tail' : ℕ} → ((p : ℕ) → p < m → Also p → Also' p) → ((p : ℕ) → p < m → Also' p → Also p) → Grown m n Also place part begin end cut order' place' cut' touched' tail' → Grown m n Also' place part begin end cut order' place' cut' touched' tail'
  grown_as Also Also' to fro g = record {
    arranged = g.arranged;
    touched = g.touched;
    old = g.old;
    new = λ q h e. g.new q h (fro q h e);
    only = λ q h e. elim (g.only q h e) [ inl o ↦ inl o | inr a ↦ inr (to q h a) ];
  }

  -- first these, then those
  pub grown_then : (These Those : ℕ → Type 0) {place cut order' place' cut' touched' order'' place'' cut'' touched'' : List ℕ} {tail' tail'' : ℕ} → Grown m n These place part begin end cut order' place' cut' touched' tail' → Grown m n Those place' part begin end cut' order'' place'' cut'' touched'' tail'' → Grown m n (λ p. These p ⊎ Those p) place part begin end cut order'' place'' cut'' touched'' tail''
  grown_then These Those g k = record {
    arranged = k.arranged;
    touched = k.touched;
    old = λ q h e. k.old q h (g.old q h e);
    new = λ q h e. elim e [ inl b ↦ k.old q h (g.new q h b) | inr b ↦ k.new q h b ];
    only = λ q h e. elim (k.only q h e) [ inl o ↦ elim (g.only q h o) [ inl a ↦ inl a | inr a ↦ inr (inl a) ] | inr a ↦ inr (inr a) ];
  }

  -- walking down a list every class that goes to r is met
  module _ {to head link : ℕ → ℕ} (x : Comers m m to head link) (r : ℕ) {place cut : List ℕ} where
    pub walked_start : {order touched : List ℕ} {tail : ℕ} → r < m → Arranged m n order place part begin end cut → Touched m n begin cut touched 0 tail → Walked m n to r (head r) place part begin end cut order place cut touched tail
    walked_start h a t =
        let o = x.heads_last r h in
        record { below = o.within; goes = o.goes; grown = grown_none (λ p. (head r ≤ p) × (to p ≡ r)) a t (λ p l b. (let (g, e) = b in let y = o.all p l e in let z : ⊥ = omega arith in z)) }

    pub walked_more : (e : ℕ) {order' place' cut' touched' order'' place'' cut'' touched'' : List ℕ} {tail' tail'' : ℕ} → Walked m n to r e place part begin end cut order' place' cut' touched' tail' → 0 < e → Grown m n (λ p. p ≡ e - 1) place' part begin end cut' order'' place'' cut'' touched'' tail'' → Walked m n to r (link (e - 1)) place part begin end cut order'' place'' cut'' touched'' tail''
    walked_more e w l g =
        let q = e - 1 in
        let e' = link q in
        let o = x.links_last q (omega (arith, w.below)) in
        let falls = link_falls m to head link x e w.below l in
        let goes_q : to q ≡ r = w.goes l in
        let met : (p : ℕ) → p < m → (((e ≤ p) × (to p ≡ r)) ⊎ (p ≡ q)) → (e' ≤ p) × (to p ≡ r) = λ p h a. elim a [
          | inl b ↦ let (y, z) = b in (omega arith, z)
          | inr b ↦ (omega (arith, o.within), ap to b ∙ goes_q)
        ] in
        let rest : (p : ℕ) → p < m → (e' ≤ p) × (to p ≡ r) → (((e ≤ p) × (to p ≡ r)) ⊎ (p ≡ q)) = λ p h a. (let (y, z) = a in elim (dec_lt p e) [
          | no n ↦ inl (omega arith, z)
          | yes b ↦ elim (ℕ_discrete p q) [ yes i ↦ inr i | no n ↦ let f = o.all p (omega arith) (z ∙ sym goes_q) in let v : ⊥ = omega arith in absurd v ]
        ]) in
        record {
          below = omega (arith, w.below);
          goes = λ z. o.goes z ∙ goes_q;
          grown = grown_as (λ p. ((e ≤ p) × (to p ≡ r)) ⊎ (p ≡ q)) (λ p. (e' ≤ p) × (to p ≡ r)) met rest (grown_then (λ p. (e ≤ p) × (to p ≡ r)) (λ p. p ≡ q) w.grown g);
        }

    pub walked_end : (e : ℕ) {order' place' cut' touched' : List ℕ} {tail' : ℕ} → Walked m n to r e place part begin end cut order' place' cut' touched' tail' → e ≤ 0 → Grown m n (λ p. to p ≡ r) place part begin end cut order' place' cut' touched' tail'
    walked_end e w l = grown_as (λ p. (e ≤ p) × (to p ≡ r)) (λ p. to p ≡ r) (λ p h a. a.1) (λ p h z. (omega arith, z)) w.grown

  -- one member more, and one class more
  pub grown_member : {place cut order' place' cut' touched' order'' place'' cut'' touched'' : List ℕ} {tail' tail'' : ℕ} (members : List ℕ) (to : ℕ → ℕ) (i : ℕ) → Grown m n (λ q. (j : ℕ) × (j < i) × (get_or members j 0 ≡ to q)) place part begin end cut order' place' cut' touched' tail' → Grown m n (λ q. to q ≡ get_or members i 0) place' part begin end cut' order'' place'' cut'' touched'' tail'' → Grown m n (λ q. (j : ℕ) × (j < i + 1) × (get_or members j 0 ≡ to q)) place part begin end cut order'' place'' cut'' touched'' tail''
  grown_member members to i g k = grown_as (λ q. ((j : ℕ) × (j < i) × (get_or members j 0 ≡ to q)) ⊎ (to q ≡ get_or members i 0)) (λ q. (j : ℕ) × (j < i + 1) × (get_or members j 0 ≡ to q))
      (λ q h a. elim a [ inl b ↦ (let (j, l, e) = b in (j, omega arith, e)) | inr b ↦ (i, omega arith, sym b) ])
      (λ q h a. (let (j, l, e) = a in elim (ℕ_discrete j i) [ yes s ↦ inr (sym e ∙ ap (λ j. get_or members j 0) s) | no d ↦ inl (j, omega arith, e) ]))
      (grown_then (λ q. (j : ℕ) × (j < i) × (get_or members j 0 ≡ to q)) (λ q. to q ≡ get_or members i 0) g k)

  pub grown_class : {place cut order' place' cut' touched' order'' place'' cut'' touched'' : List ℕ} {tail' tail'' : ℕ} (P : ℕ → Type 0) (i : ℕ) → P i → Grown m n (λ q. (q < i) × P q) place part begin end cut order' place' cut' touched' tail' → Grown m n (λ q. q ≡ i) place' part begin end cut' order'' place'' cut'' touched'' tail'' → Grown m n (λ q. (q < i + 1) × P q) place part begin end cut order'' place'' cut'' touched'' tail''
  grown_class P i here g k = grown_as (λ q. ((q < i) × P q) ⊎ (q ≡ i)) (λ q. (q < i + 1) × P q)
      (λ q h a. elim a [ inl b ↦ (let (l, e) = b in (omega arith, e)) | inr b ↦ (omega arith, subst P (sym b) here) ])
      (λ q h a. (let (l, e) = a in elim (ℕ_discrete q i) [ yes s ↦ inr s | no d ↦ inl (omega arith, e) ]))
      (grown_then (λ q. (q < i) × P q) (λ q. q ≡ i) g k)

  pub grown_skip : {place cut order' place' cut' touched' : List ℕ} {tail' : ℕ} (P : ℕ → Type 0) (i : ℕ) → (P i → ⊥) → Grown m n (λ q. (q < i) × P q) place part begin end cut order' place' cut' touched' tail' → Grown m n (λ q. (q < i + 1) × P q) place part begin end cut order' place' cut' touched' tail'
  grown_skip P i none g = grown_as (λ q. (q < i) × P q) (λ q. (q < i + 1) × P q)
      (λ q h a. (let (l, e) = a in (omega arith, e)))
      (λ q h a. (let (l, e) = a in elim (ℕ_discrete q i) [ yes s ↦ absurd (none (subst P s e)) | no d ↦ (omega arith, e) ])) g
