-- The lists of the classes that come to each class: what one more class on them keeps.
use Rattle.std.proofs.Common.{◌≡◌, ℕ, ◌+◌, ◌-◌, ◌*◌, ◌<◌, ◌≤◌, List, length, get_or, sym, ap, ◌∙◌, subst, arith}
use native.Mathlib.Decide.{ℕ_discrete}
use Rattle.tables.specs.Cells.{cell, entry, put_entry}
use Rattle.tables.proofs.CellsLaws.{cell_fits, put_here, put_other}
use Rattle.splitting.specs.Comers.{Last, Comers, Listed}

-- class q, which goes to r, is put before the list of r
module _ (m q r : ℕ) (to head link head' link' : ℕ → ℕ) (x : Comers m q to head link) (g : r < m) (goes_q : to q ≡ r)
    (here : head' r ≡ q + 1) (there : (s : ℕ) → s < m → (s ≡ r → ⊥) → head' s ≡ head s) (link_here : link' q ≡ head r) (link_there : (p : ℕ) → p < q → link' p ≡ link p) where
  last_here : Last to r (q + 1) (q + 1)
  last_here = record { within = omega arith; all = λ p l z. l; goes = λ l. (let s : q + 1 - 1 ≡ q = omega arith in ap to s ∙ goes_q) }

  last_other : (s : ℕ) → s < m → (s ≡ r → ⊥) → Last to s (q + 1) (head s)
  last_other s l n =
      let o = x.heads_last s l in
      record { within = omega (arith, o.within); all = λ p z e. o.all p (elim (ℕ_discrete p q) [ yes i ↦ absurd (n (sym e ∙ ap to i ∙ goes_q)) | no i ↦ omega arith ]) e; goes = o.goes }

  new_head : (s : ℕ) → s < m → Last to s (q + 1) (head' s)
  new_head s l = elim (ℕ_discrete s r) [
    | yes e ↦ subst (λ c. Last to c (q + 1) (head' c)) (sym e) (subst (Last to r (q + 1)) (sym here) last_here)
    | no n ↦ subst (Last to s (q + 1)) (sym (there s l n)) (last_other s l n)
  ]

  new_link : (p : ℕ) → p < q + 1 → Last to (to p) p (link' p)
  new_link p l = elim (ℕ_discrete p q) [
    | yes e ↦ subst (λ c. Last to (to c) c (link' c)) (sym e) (subst (Last to (to q) q) (sym link_here) (subst (λ c. Last to c q (head r)) (sym goes_q) (x.heads_last r g)))
    | no n ↦ subst (Last to (to p) p) (sym (link_there p (omega arith))) (x.links_last p (omega arith))
  ]

  pub comers_more : Comers m (q + 1) to head' link'
  comers_more = record { heads_last = new_head; links_last = new_link }

-- the same lists in other memory
comers_same : (m n : ℕ) (to head link head' link' : ℕ → ℕ) → Comers m n to head link → ((r : ℕ) → r < m → head' r ≡ head r) → ((q : ℕ) → q < n → link' q ≡ link q) → Comers m n to head' link'
comers_same m n to head link head' link' x h l = record {
  heads_last = λ r g. subst (Last to r n) (sym (h r g)) (x.heads_last r g);
  links_last = λ q g. subst (Last to (to q) q) (sym (l q g)) (x.links_last q g);
}

entry_clear : (m width : ℕ) (heads : List ℕ) → ((i : ℕ) → i < m * width → get_or heads i 0 ≡ 0) → (r a : ℕ) → r < m → a < width → entry heads width r a ≡ 0
unfolding entry
entry_clear m width heads h r a l g = h (cell width r a) (cell_fits r a m width l g)

module _ {m width : ℕ} {δ : ℕ → ℕ → ℕ} {repeats : List ℕ} where
  -- no class yet
  pub listed_none : (heads links : List ℕ) → ((i : ℕ) → i < m * width → get_or heads i 0 ≡ 0) → Listed m width δ repeats heads links 0 0
  listed_none heads links h = record {
    done = λ b l. (let z : ⊥ = omega arith in absurd z);
    left = λ b l g d. record {
      heads_last = λ r k. subst (Last (λ p. δ p b) r 0) (sym (entry_clear m width heads h r b k g)) (record { within = omega arith; all = λ p z. (let y : ⊥ = omega arith in absurd y); goes = λ z. (let y : ⊥ = omega arith in absurd y) });
      links_last = λ q z. (let y : ⊥ = omega arith in absurd y);
    };
  }

  -- one column more of class q
  module _ (heads links heads' links' : List ℕ) (q a r last : ℕ) (x : Listed m width δ repeats heads links q a) (hq : q < m) (ha : a < width) (hr : r < m) (leads : r ≡ δ q a) (is : last ≡ entry heads width r a)
      (heads_room : m * width ≤ length heads) (links_room : m * width ≤ length links) (links_put : links' ≡ put_entry links width q a last) (heads_put : heads' ≡ put_entry heads width r a (q + 1)) where
    head_here : entry heads' width r a ≡ q + 1
    head_here = rw heads_put (put_here heads m width r a (q + 1) heads_room hr ha)

    head_there : (s b : ℕ) → b < width → ((s ≡ r) × (b ≡ a) → ⊥) → entry heads' width s b ≡ entry heads width s b
    head_there s b l n = rw heads_put (put_other heads width r a (q + 1) s b ha l n)

    link_here : entry links' width q a ≡ entry heads width r a
    link_here = rw links_put (put_here links m width q a last links_room hq ha) ∙ is

    link_there : (p b : ℕ) → b < width → ((p ≡ q) × (b ≡ a) → ⊥) → entry links' width p b ≡ entry links width p b
    link_there p b l n = rw links_put (put_other links width q a last p b ha l n)

    more_done : (b : ℕ) → b < a + 1 → b < width → (get_or repeats b 0 ≡ 1 → ⊥) → Comers m (q + 1) (λ p. δ p b) (λ s. entry heads' width s b) (λ p. entry links' width p b)
    more_done b l g d = elim (ℕ_discrete b a) [
      | yes e ↦ subst (λ b. Comers m (q + 1) (λ p. δ p b) (λ s. entry heads' width s b) (λ p. entry links' width p b)) (sym e)
          (comers_more m q r (λ p. δ p a) (λ s. entry heads width s a) (λ p. entry links width p a) (λ s. entry heads' width s a) (λ p. entry links' width p a) (x.left a (omega arith) ha (subst (λ b. get_or repeats b 0 ≡ 1 → ⊥) e d)) hr (sym leads)
          head_here (λ s k n. head_there s a ha (λ e. n e.0)) link_here (λ p k. link_there p a ha (λ e. (let (i, j) = e in omega arith))))
      | no n ↦ comers_same m (q + 1) (λ p. δ p b) (λ s. entry heads width s b) (λ p. entry links width p b) (λ s. entry heads' width s b) (λ p. entry links' width p b) (x.done b (omega arith) g d)
          (λ s k. head_there s b g (λ e. n e.1)) (λ p k. link_there p b g (λ e. n e.1))
    ]

    pub listed_more : Listed m width δ repeats heads' links' q (a + 1)
    listed_more = record {
      done = more_done;
      left = λ b l g d. comers_same m q (λ p. δ p b) (λ s. entry heads width s b) (λ p. entry links width p b) (λ s. entry heads' width s b) (λ p. entry links' width p b) (x.left b (omega arith) g d)
          (λ s k. head_there s b g (λ e. (let (i, j) = e in omega arith))) (λ p k. link_there p b g (λ e. (let (i, j) = e in omega arith)));
    }

  -- a column that is marked has no lists
  pub listed_skip : {heads links : List ℕ} {q a : ℕ} → Listed m width δ repeats heads links q a → get_or repeats a 0 ≡ 1 → Listed m width δ repeats heads links q (a + 1)
  listed_skip {heads} {links} {q} {a} x e = record {
    done = λ b l g d. elim (ℕ_discrete b a) [ yes s ↦ absurd (d (ap (λ b. get_or repeats b 0) s ∙ e)) | no s ↦ x.done b (omega arith) g d ];
    left = λ b l g d. x.left b (omega arith) g d;
  }

  -- all columns of class q
  pub listed_class : {heads links : List ℕ} {q a : ℕ} → Listed m width δ repeats heads links q a → a ≡ width → Listed m width δ repeats heads links (q + 1) 0
  listed_class {heads} {links} {q} {a} x e = record {
    done = λ b l. (let z : ⊥ = omega arith in absurd z);
    left = λ b l g d. x.done b (omega arith) g d;
  }

  -- all classes
  pub listed_end : {heads links : List ℕ} {q : ℕ} → Listed m width δ repeats heads links q 0 → q ≡ m → (a : ℕ) → a < width → (get_or repeats a 0 ≡ 1 → ⊥) → Comers m m (λ p. δ p a) (λ r. entry heads width r a) (λ p. entry links width p a)
  listed_end {heads} {links} {q} x e a h d = subst (λ n. Comers m n (λ p. δ p a) (λ r. entry heads width r a) (λ p. entry links width p a)) e (x.left a (omega arith) h d)

-- walking down a list: its numbers fall
pub link_falls : (m : ℕ) (to head link : ℕ → ℕ) → Comers m m to head link → (e : ℕ) → e ≤ m → 0 < e → link (e - 1) < e
link_falls m to head link x e h l = omega (arith, (x.links_last (e - 1) (omega arith)).within)
