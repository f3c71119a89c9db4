-- Marking classes from the accepting ones back: what each step keeps of the lists, of the marks and
-- of the queue, and what is marked at the end.
use Rattle.std.proofs.Common.{◌≡◌, ℕ, zero, suc, ◌+◌, ◌-◌, ◌^◌, ◌<◌, ◌≤◌, Bool, true, false, eqb, ◌⊎◌, ◌↔◌, List, ◌∷◌, length, get_or, set, sym, refl, ap, ◌∙◌, subst, inl, inr, arith, pow_pos}
use native.Mathlib.Decide.{ℕ_discrete, dec_lt}
use Rattle.std.proofs.lemmas.List.{get_or-set_same, get_or-set_other, length-set}
use Rattle.std.proofs.lemmas.Bool.{eq-eqb}
use Rattle.words.specs.Bits.{put_bit}
use Rattle.words.specs.Words.{bit}
use Rattle.words.proofs.BitsLaws.{agree_put, bit_zero, put_bit_below}
use Rattle.automata.specs.Subsets.{Completes}
use Rattle.automata.proofs.Counting.{pigeon}
use Rattle.automata.proofs.Live.{completes_all, completes_step}
use Rattle.tables.specs.Cells.{accepts}
use Rattle.live.specs.Beyond.{Comers, Grown, Last, Queued, Walked, Marking}

-- a class that is not marked is not in the queue
not_queued : (m : ℕ) (marks queue : List ℕ) (tail q : ℕ) → Queued m marks queue tail → (accepts marks q ≡ true → ⊥) → (i : ℕ) → i < tail → get_or queue i 0 ≡ q → ⊥
not_queued m marks queue tail q x n i l e = n (subst (λ p. accepts marks p ≡ true) e (x.marked i l))

-- and has room there: the classes in the queue are fewer than all classes
pub queue_room : (m : ℕ) (marks queue : List ℕ) (tail q : ℕ) → Queued m marks queue tail → q < m → (accepts marks q ≡ true → ⊥) → tail < m
queue_room m marks queue tail q x h n = pigeon (suc tail) m (λ i. get_or (q ∷ queue) i 0) below apart
  where
    below : (i : ℕ) → i < suc tail → get_or (q ∷ queue) i 0 < m
    below zero l = h
    below (suc i) l = x.classes i (omega arith)

    apart : (i j : ℕ) → i < suc tail → j < suc tail → get_or (q ∷ queue) i 0 ≡ get_or (q ∷ queue) j 0 → i ≡ j
    apart zero zero l k e = refl
    apart zero (suc j) l k e = absurd (not_queued m marks queue tail q x n j (omega arith) (sym e))
    apart (suc i) zero l k e = absurd (not_queued m marks queue tail q x n i (omega arith) e)
    apart (suc i) (suc j) l k e = ap suc (x.differ i j (omega arith) (omega arith) e)

-- a mark that is set
mark_here : (marks : List ℕ) (q : ℕ) → q < length marks → accepts (set marks q 1) q ≡ true
mark_here marks q h = eq-eqb _ _ (get_or-set_same marks q 1 0 h)

mark_other : (marks : List ℕ) (q p : ℕ) → (p ≡ q → ⊥) → accepts (set marks q 1) p ≡ accepts marks p
mark_other marks q p n = ap (λ v. eqb v 1) (get_or-set_other marks q p 1 0 n)

mark_old : (marks : List ℕ) (q p : ℕ) → q < length marks → accepts marks p ≡ true → accepts (set marks q 1) p ≡ true
mark_old marks q p h e = elim (ℕ_discrete p q) [
  | yes i ↦ subst (λ r. accepts (set marks q 1) r ≡ true) (sym i) (mark_here marks q h)
  | no n ↦ mark_other marks q p n ∙ e
]

-- a class that is not marked yet is marked and put at the queue's tail
module _ (m : ℕ) (marks queue : List ℕ) (tail q : ℕ) (x : Queued m marks queue tail) (h : q < m) (n : accepts marks q ≡ true → ⊥) where
  room : tail < length queue
  room = omega (arith, queue_room m marks queue tail q x h n, x.queue_fits)

  here : (i : ℕ) → i ≡ tail → get_or (set queue tail q) i 0 ≡ q
  here i e = rw e (get_or-set_same queue tail q 0 room)

  before : (i : ℕ) → i < tail + 1 → (i ≡ tail → ⊥) → (i < tail) × (get_or (set queue tail q) i 0 ≡ get_or queue i 0)
  before i l ne = (omega arith, get_or-set_other queue tail i q 0 ne)

  -- what holds of the classes that were in the queue and of q holds of those that are
  each : (P : ℕ → Type 0) → ((i : ℕ) → i < tail → P (get_or queue i 0)) → P q → (i : ℕ) → i < tail + 1 → P (get_or (set queue tail q) i 0)
  each P old new i l = elim (ℕ_discrete i tail) [ yes e ↦ subst P (sym (here i e)) new | no ne ↦ let (b, k) = before i l ne in subst P (sym k) (old i b) ]

  other : (i : ℕ) → i < tail → get_or queue i 0 ≡ q → ⊥
  other = not_queued m marks queue tail q x n

  apart : (i j : ℕ) → i < tail + 1 → j < tail + 1 → get_or (set queue tail q) i 0 ≡ get_or (set queue tail q) j 0 → i ≡ j
  apart i j l k e = elim (ℕ_discrete i tail) [
    | yes a ↦ elim (ℕ_discrete j tail) [
      | yes b ↦ a ∙ sym b
      | no b ↦ let (y, f) = before j k b in absurd (other j y (sym f ∙ sym e ∙ here i a))
    ]
    | no a ↦ let (z, g) = before i l a in elim (ℕ_discrete j tail) [
      | yes b ↦ absurd (other i z (sym g ∙ e ∙ here j b))
      | no b ↦ let (y, f) = before j k b in x.differ i j z y (sym g ∙ e ∙ f)
    ]
  ]

  found : (p : ℕ) → p < m → accepts (set marks q 1) p ≡ true → (i : ℕ) × (i < tail + 1) × (get_or (set queue tail q) i 0 ≡ p)
  found p l e = elim (ℕ_discrete p q) [
    | yes a ↦ (tail, omega arith, here tail refl ∙ sym a)
    | no a ↦ let (i, b, f) = x.all p l (sym (mark_other marks q p a) ∙ e) in (i, omega arith, get_or-set_other queue tail i q 0 (λ z. (let y : ⊥ = omega arith in y)) ∙ f)
  ]

  marks_room : q < length marks
  marks_room = omega (arith, x.marks_fit)

  pub grown_mark : Grown m (λ p. p ≡ q) marks queue tail (set marks q 1) (set queue tail q) (tail + 1)
  grown_mark = record {
    queued = record {
      marks_fit = simp length-set x.marks_fit;
      queue_fits = simp length-set x.queue_fits;
      within = omega (arith, queue_room m marks queue tail q x h n);
      classes = each (λ p. p < m) x.classes h;
      marked = each (λ p. accepts (set marks q 1) p ≡ true) (λ i l. mark_old marks q (get_or queue i 0) marks_room (x.marked i l)) (mark_here marks q marks_room);
      all = found;
      differ = apart;
    };
    old = λ p l e. mark_old marks q p marks_room e;
    new = λ p l e. subst (λ r. accepts (set marks q 1) r ≡ true) (sym e) (mark_here marks q marks_room);
    only = λ p l e. elim (ℕ_discrete p q) [ yes i ↦ inr i | no ne ↦ inl (sym (mark_other marks q p ne) ∙ e) ];
    longer = omega arith;
    kept = λ i l. get_or-set_other queue tail i q 0 (λ e. (let z : ⊥ = omega arith in z));
  }

-- nothing new is marked
grown_none : (m : ℕ) (Also : ℕ → Type 0) (marks queue : List ℕ) (tail : ℕ) → Queued m marks queue tail → ((p : ℕ) → p < m → Also p → ⊥) → Grown m Also marks queue tail marks queue tail
grown_none m Also marks queue tail x n = record {
  queued = x;
  old = λ q h e. e;
  new = λ q h a. absurd (n q h a);
  only = λ q h e. inl e;
  longer = omega arith;
  kept = λ i h. refl;
}

-- the same classes, said in another way
grown_as : (m : ℕ) (Also Also' : ℕ → Type 0) (marks queue : List ℕ) (tail : ℕ) (marks' queue' : List ℕ) (tail' : ℕ) → ((p : ℕ) → p < m → Also p → Also' p) → ((p : ℕ) → p < m → Also' p → Also p) → Grown m Also marks queue tail marks' queue' tail' → Grown m Also' marks queue tail marks' queue' tail'
grown_as m Also Also' marks queue tail marks' queue' tail' to fro g = record {
  queued = g.queued;
  old = g.old;
  new = λ q h a. g.new q h (fro q h a);
  only = λ q h e. elim (g.only q h e) [ inl o ↦ inl o | inr a ↦ inr (to q h a) ];
  longer = g.longer;
  kept = g.kept;
}

-- first these, then those
grown_then : (m : ℕ) (These Those : ℕ → Type 0) (marks queue : List ℕ) (tail : ℕ) (marks' queue' : List ℕ) (tail' : ℕ) (marks'' queue'' : List ℕ) (tail'' : ℕ) → Grown m These marks queue tail marks' queue' tail' → Grown m Those marks' queue' tail' marks'' queue'' tail'' → Grown m (λ p. These p ⊎ Those p) marks queue tail marks'' queue'' tail''
grown_then m These Those marks queue tail marks' queue' tail' marks'' queue'' tail'' g k = record {
  queued = k.queued;
  old = λ q h e. k.old q h (g.old q h e);
  new = λ q h a. elim a [ inl b ↦ k.old q h (g.new q h b) | inr b ↦ k.new q h b ];
  only = λ q h e. elim (k.only q h e) [ inl o ↦ elim (g.only q h o) [ inl a ↦ inl a | inr a ↦ inr (inl a) ] | inr a ↦ inr (inr a) ];
  longer = omega (arith, g.longer, k.longer);
  kept = λ i h. k.kept i (omega (arith, g.longer)) ∙ g.kept i h;
}

-- class q, which goes to r, is put before the list of r
module _ (m q r : ℕ) (to : ℕ → ℕ) (heads links : List ℕ) (x : Comers m q to heads links) (h : q < m) (g : r < m) (goes-q : to q ≡ r) where
  last_here : Last to r (q + 1) (q + 1)
  last_here = record { within = omega arith; all = λ p l z. l; goes = λ l. (let s : q + 1 - 1 ≡ q = omega arith in ap to s ∙ goes-q) }

  last_other : (s : ℕ) → s < m → (s ≡ r → ⊥) → Last to s (q + 1) (get_or heads s 0)
  last_other s l n =
      let o = x.heads_last s l in
      record { within = omega (arith, o.within); all = λ p z e. o.all p (elim (ℕ_discrete p q) [ yes i ↦ absurd (n (sym e ∙ ap to i ∙ goes-q)) | no i ↦ omega arith ]) e; goes = o.goes }

  head_room : r < length heads
  head_room = omega (arith, x.heads_fit)

  link_room : q < length links
  link_room = omega (arith, x.links_fit)

  new_head : (s : ℕ) → s < m → Last to s (q + 1) (get_or (set heads r (q + 1)) s 0)
  new_head s l = elim (ℕ_discrete s r) [
    | yes e ↦ subst (λ c. Last to c (q + 1) (get_or (set heads r (q + 1)) c 0)) (sym e) (subst (Last to r (q + 1)) (sym (get_or-set_same heads r (q + 1) 0 head_room)) last_here)
    | no n ↦ subst (Last to s (q + 1)) (sym (get_or-set_other heads r s (q + 1) 0 n)) (last_other s l n)
  ]

  new_link : (p : ℕ) → p < q + 1 → Last to (to p) p (get_or (set links q (get_or heads r 0)) p 0)
  new_link p l = elim (ℕ_discrete p q) [
    | yes e ↦ subst (λ c. Last to (to c) c (get_or (set links q (get_or heads r 0)) c 0)) (sym e) (subst (Last to (to q) q) (sym (get_or-set_same links q (get_or heads r 0) 0 link_room)) (subst (λ c. Last to c q (get_or heads r 0)) (sym goes-q) (x.heads_last r g)))
    | no n ↦ subst (Last to (to p) p) (sym (get_or-set_other links q p (get_or heads r 0) 0 n)) (x.links_last p (omega arith))
  ]

  pub comers_more : Comers m (q + 1) to (set heads r (q + 1)) (set links q (get_or heads r 0))
  comers_more = record { heads_fit = simp length-set x.heads_fit; links_fit = simp length-set x.links_fit; heads_last = new_head; links_last = new_link }

-- walking down a list: its numbers fall, and every class that goes to r is met
module _ (m : ℕ) (to : ℕ → ℕ) (heads links : List ℕ) (x : Comers m m to heads links) where
  pub link_falls : (e : ℕ) → e ≤ m → 0 < e → get_or links (e - 1) 0 < e
  link_falls e h l = omega (arith, (x.links_last (e - 1) (omega arith)).within)

  module _ (r : ℕ) (marks queue : List ℕ) (tail : ℕ) where
    pub walked_start : r < m → Queued m marks queue tail → Walked m to r (get_or heads r 0) marks queue tail marks queue tail
    walked_start h u =
        let o = x.heads_last r h in
        record { within = o.within; goes = o.goes; grown = grown_none m (λ p. (get_or heads r 0 ≤ p) × (to p ≡ r)) marks queue tail u (λ p l a. (let (b, e) = a in let y = o.all p l e in let z : ⊥ = omega arith in z)) }

    pub walked_more : (e : ℕ) (marks' queue' : List ℕ) (tail' : ℕ) (marks'' queue'' : List ℕ) (tail'' : ℕ) → Walked m to r e marks queue tail marks' queue' tail' → 0 < e → Grown m (λ p. p ≡ e - 1) marks' queue' tail' marks'' queue'' tail'' → Walked m to r (get_or links (e - 1) 0) marks queue tail marks'' queue'' tail''
    walked_more e marks' queue' tail' marks'' queue'' tail'' w l g =
        let q = e - 1 in
        let e' = get_or links q 0 in
        let o = x.links_last q (omega (arith, w.within)) in
        let falls = link_falls e w.within l in
        let goes-q : to q ≡ r = w.goes l in
        let met : (p : ℕ) → p < m → (((e ≤ p) × (to p ≡ r)) ⊎ (p ≡ q)) → (e' ≤ p) × (to p ≡ r) = λ p h a. elim a [
          | inl b ↦ let (y, z) = b in (omega arith, z)
          | inr b ↦ (omega (arith, o.within), ap to b ∙ goes-q)
        ] in
        let left : (p : ℕ) → p < m → (e' ≤ p) × (to p ≡ r) → (((e ≤ p) × (to p ≡ r)) ⊎ (p ≡ q)) = λ p h a. (let (y, z) = a in elim (dec_lt p e) [
          | no n ↦ inl (omega arith, z)
          | yes b ↦ elim (ℕ_discrete p q) [ yes i ↦ inr i | no n ↦ let f = o.all p (omega arith) (z ∙ sym goes-q) in let v : ⊥ = omega arith in absurd v ]
        ]) in
        record {
          within = omega (arith, w.within);
          goes = λ z. o.goes z ∙ goes-q;
          grown = grown_as m (λ p. ((e ≤ p) × (to p ≡ r)) ⊎ (p ≡ q)) (λ p. (e' ≤ p) × (to p ≡ r)) marks queue tail marks'' queue'' tail'' met left (grown_then m (λ p. (e ≤ p) × (to p ≡ r)) (λ p. p ≡ q) marks queue tail marks' queue' tail' marks'' queue'' tail'' w.grown g);
        }

    pub walked_end : (e : ℕ) (marks' queue' : List ℕ) (tail' : ℕ) → Walked m to r e marks queue tail marks' queue' tail' → e ≤ 0 → Grown m (λ p. to p ≡ r) marks queue tail marks' queue' tail'
    walked_end e marks' queue' tail' w l = grown_as m (λ p. (e ≤ p) × (to p ≡ r)) (λ p. to p ≡ r) marks queue tail marks' queue' tail' (λ p h a. a.1) (λ p h z. (omega arith, z)) w.grown

-- the columns in which at most x has a place
column_without : (x : ℕ) → 0 ≡ put_bit x false 0
column_without x = agree_put x 0 0 (λ y n. refl) ∙ ap (λ b. put_bit x b 0) (bit_zero x)

pub column_with : (x c : ℕ) → bit x c ≡ true → ((y : ℕ) → (y ≡ x → ⊥) → bit y c ≡ bit y 0) → c ≡ put_bit x true 0
column_with x c e others = agree_put x 0 c (λ y n. sym (others y n)) ∙ ap (λ b. put_bit x b 0) e

-- marking from the accepting classes back
module _ (x m : ℕ) (δ : ℕ → ℕ → ℕ) (f : ℕ → Bool) where
  -- all that go by the two columns to the class at place i are marked
  pub marking_more : (marks queue : List ℕ) (tail i c r : ℕ) (marks' queue' : List ℕ) (tail' : ℕ) (marks'' queue'' : List ℕ) (tail'' : ℕ) → Marking x m δ f marks queue tail i → i < tail → c ≡ put_bit x true 0 → r ≡ get_or queue i 0 → Grown m (λ p. δ p 0 ≡ r) marks queue tail marks' queue' tail' → Grown m (λ p. δ p c ≡ r) marks' queue' tail' marks'' queue'' tail'' → Marking x m δ f marks'' queue'' tail'' (i + 1)
  marking_more marks queue tail i c r marks' queue' tail' marks'' queue'' tail'' w l with-x at g k =
      let y = grown_then m (λ p. δ p 0 ≡ r) (λ p. δ p c ≡ r) marks queue tail marks' queue' tail' marks'' queue'' tail'' g k in
      let here : Completes x δ f r = subst (Completes x δ f) (sym at) (w.completed (get_or queue i 0) (w.queued.classes i l) (w.queued.marked i l)) in
      let back : (b : Bool) (p : ℕ) → δ p (put_bit x b 0) ≡ r → Completes x δ f p = λ b p e. completes_step x δ f p b (subst (Completes x δ f) (sym e) here) in
      let comes : (b : Bool) (p : ℕ) → δ p (put_bit x b 0) ≡ r → ((δ p 0 ≡ r) ⊎ (δ p c ≡ r)) = λ b p. elim b as (λ v. δ p (put_bit x v 0) ≡ r → ((δ p 0 ≡ r) ⊎ (δ p c ≡ r))) [ true ↦ λ e. inr (ap (δ p) with-x ∙ e) | false ↦ λ e. inl (ap (δ p) (column_without x) ∙ e) ] in
      record {
        queued = y.queued;
        within = omega (arith, y.longer);
        accepting = λ q h e. y.old q h (w.accepting q h e);
        completed = λ q h e. elim (y.only q h e) [
          | inl o ↦ w.completed q h o
          | inr a ↦ elim a [ inl o ↦ back false q (sym (ap (δ q) (column_without x)) ∙ o) | inr o ↦ back true q (sym (ap (δ q) with-x) ∙ o) ]
        ];
        closed = λ b j q z h e. elim (ℕ_discrete j i) [
          | yes s ↦ y.new q h (comes b q (e ∙ y.kept j (omega arith) ∙ ap (λ n. get_or queue n 0) s ∙ sym at))
          | no n ↦ y.old q h (w.closed b j q (omega arith) h (e ∙ y.kept j (omega arith)))
        ];
      }

  -- the whole queue is done
  pub marking_end : (k : ℕ) (marks queue : List ℕ) (tail i : ℕ) → ((q b : ℕ) → q < m → b < 2 ^ k → δ q b < m) → x < k → Marking x m δ f marks queue tail i → tail ≤ i → (q : ℕ) → q < m → (accepts marks q ≡ true) ↔ Completes x δ f q
  marking_end k marks queue tail i below hx w l q h = (
    w.completed q h,
    completes_all x δ f (λ p. accepts marks p ≡ true) m (λ p b g. below p (put_bit x b 0) g (put_bit_below k x b 0 hx (pow_pos k))) w.accepting
        (λ p b g e. (let (j, z, s) = w.queued.all (δ p (put_bit x b 0)) (below p (put_bit x b 0) g (put_bit_below k x b 0 hx (pow_pos k))) e in w.closed b j p (omega arith) g (sym s))) q h,
  )
