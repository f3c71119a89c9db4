-- The places of classes, and the parts that they make: what a swap keeps, and what a mark does.
use Rattle.std.proofs.Common.{◌≡◌, ℕ, zero, suc, ◌+◌, ◌-◌, ◌<◌, ◌≤◌, ◌⊎◌, List, ◌∷◌, ◌++◌, length, take, drop, get_or, set, sym, refl, ap, ◌∙◌, subst, inl, inr, arith, length-append, length-drop}
use native.Mathlib.Decide.{ℕ_discrete}
use Rattle.std.proofs.lemmas.List.{get_or-set_same, get_or-set_other, length-set, length-take-le, get_or_append_left}
use Rattle.tables.proofs.CellsLaws.{part_at}
use Rattle.automata.proofs.Counting.{pigeon}
use Rattle.splitting.specs.Places.{Inverse, Swapped, Parts, Arranged, Marked, Unmarked, Touched, Grown, Members}

-- where no class is marked no part is touched
pub touched_none : {m n : ℕ} {begin cut : List ℕ} (touched : List ℕ) → Unmarked n begin cut → m ≤ length touched → Touched m n begin cut touched 0 0
touched_none touched u h = record {
  fits = h;
  within = omega arith;
  parts = λ i l g. (let z : ⊥ = omega arith in absurd z);
  some = λ i l g. (let z : ⊥ = omega arith in absurd z);
  differ = λ i j l g. (let z : ⊥ = omega arith in absurd z);
  all = λ c l g. (let e = u c l in let z : ⊥ = omega arith in absurd z);
}

pub not_marked : {m n : ℕ} {order place part begin end cut : List ℕ} → Arranged m n order place part begin end cut → Unmarked n begin cut → (q : ℕ) → q < m → Marked place part cut q → ⊥
not_marked {part = part} a u q h k = let e = u (get_or part q 0) (a.parts.below q h) in let f = a.parts.from q h in omega arith

-- parts stay what they are where two classes of one part change places
module _ {m n p q : ℕ} {place place' part begin end : List ℕ} (x : Parts m n place part begin end) (s : Swapped m p q place place') (hp : p < m) (hq : q < m) (one : get_or part q 0 ≡ get_or part p 0) where
  -- each class stands where one of its part stood
  stood : (y : ℕ) → y < m → (z : ℕ) × (z < m) × (get_or place' y 0 ≡ get_or place z 0) × (get_or part z 0 ≡ get_or part y 0)
  stood y h = elim (ℕ_discrete y p) [
    | yes e ↦ (q, hq, ap (λ y. get_or place' y 0) e ∙ s.here, one ∙ ap (λ y. get_or part y 0) (sym e))
    | no n ↦ elim (ℕ_discrete y q) [
      | yes e ↦ (p, hp, ap (λ y. get_or place' y 0) e ∙ s.there, sym one ∙ ap (λ y. get_or part y 0) (sym e))
      | no k ↦ (y, h, s.other y h n k, refl)
    ]
  ]

  pub parts_swapped : Parts m n place' part begin end
  parts_swapped = record {
    part_fits = x.part_fits;
    begin_fits = x.begin_fits;
    end_fits = x.end_fits;
    below = x.below;
    from = λ y h. (let (z, hz, e, g) = stood y h in rw (e, sym g) (x.from z hz));
    to = λ y h. (let (z, hz, e, g) = stood y h in rw (e, sym g) (x.to z hz));
    within = x.within;
    some = x.some;
    own = λ c y h k l r. (let (z, hz, e, g) = stood y k in sym g ∙ x.own c z h hz (rw e at l) (rw e at r));
  }

-- a part that is not touched finds room among the touched
module _ {m n : ℕ} {begin cut touched : List ℕ} {tail c : ℕ} (t : Touched m n begin cut touched 0 tail) (h : c < n) (e : get_or cut c 0 ≡ get_or begin c 0) where
  not_touched : (i : ℕ) → i < tail → get_or touched i 0 ≡ c → ⊥
  not_touched i l s = let b = subst (λ d. get_or begin d 0 < get_or cut d 0) s (t.some i (omega arith) l) in omega arith

  pub touched_room : tail < n
  touched_room = pigeon (suc tail) n (λ i. get_or (c ∷ touched) i 0) below apart
    where
      below : (i : ℕ) → i < suc tail → get_or (c ∷ touched) i 0 < n
      below zero l = h
      below (suc i) l = t.parts i (omega arith) (omega arith)

      apart : (i j : ℕ) → i < suc tail → j < suc tail → get_or (c ∷ touched) i 0 ≡ get_or (c ∷ touched) j 0 → i ≡ j
      apart zero zero l k e = refl
      apart zero (suc j) l k e = absurd (not_touched j (omega arith) (sym e))
      apart (suc i) zero l k e = absurd (not_touched i (omega arith) e)
      apart (suc i) (suc j) l k e = ap suc (t.differ i j (omega arith) (omega arith) (omega arith) (omega arith) e)

  -- it is put at their tail, once a class of it is marked
  module _ (few : n ≤ m) (v : ℕ) (room : c < length cut) (more : get_or begin c 0 < v) where
    cut_here : get_or (set cut c v) c 0 ≡ v
    cut_here = get_or-set_same cut c v 0 room

    cut_other : (d : ℕ) → (d ≡ c → ⊥) → get_or (set cut c v) d 0 ≡ get_or cut d 0
    cut_other d k = get_or-set_other cut c d v 0 k

    tail_room : tail < length touched
    tail_room = omega (arith, touched_room, t.fits)

    at_tail : (i : ℕ) → i ≡ tail → get_or (set touched tail c) i 0 ≡ c
    at_tail i e = rw e (get_or-set_same touched tail c 0 tail_room)

    before : (i : ℕ) → i < tail + 1 → (i ≡ tail → ⊥) → (i < tail) × (get_or (set touched tail c) i 0 ≡ get_or touched i 0)
    before i l k = (omega arith, get_or-set_other touched tail i c 0 k)

    parts : (i : ℕ) → i < tail + 1 → get_or (set touched tail c) i 0 < n
    parts i l = elim (ℕ_discrete i tail) [ yes e ↦ rw (at_tail i e) h | no k ↦ let (b, s) = before i l k in rw s (t.parts i (omega arith) b) ]

    some : (i : ℕ) → i < tail + 1 → get_or begin (get_or (set touched tail c) i 0) 0 < get_or (set cut c v) (get_or (set touched tail c) i 0) 0
    some i l = elim (ℕ_discrete i tail) [
      | yes e ↦ rw (at_tail i e, cut_here) more
      | no k ↦ let (b, s) = before i l k in let o = cut_other (get_or touched i 0) (not_touched i b) in rw (s, o) (t.some i (omega arith) b)
    ]

    apart' : (i j : ℕ) → i < tail + 1 → j < tail + 1 → get_or (set touched tail c) i 0 ≡ get_or (set touched tail c) j 0 → i ≡ j
    apart' i j l k e = elim (ℕ_discrete i tail) [
      | yes a ↦ elim (ℕ_discrete j tail) [ yes b ↦ a ∙ sym b | no b ↦ let (y, f) = before j k b in absurd (not_touched j y (sym f ∙ sym e ∙ at_tail i a)) ]
      | no a ↦ let (z, g) = before i l a in elim (ℕ_discrete j tail) [
        | yes b ↦ absurd (not_touched i z (sym g ∙ e ∙ at_tail j b))
        | no b ↦ let (y, f) = before j k b in t.differ i j (omega arith) z (omega arith) y (sym g ∙ e ∙ f)
      ]
    ]

    all : (d : ℕ) → d < n → get_or begin d 0 < get_or (set cut c v) d 0 → (i : ℕ) × (0 ≤ i) × (i < tail + 1) × (get_or (set touched tail c) i 0 ≡ d)
    all d l g = elim (ℕ_discrete d c) [
      | yes s ↦ (tail, omega arith, omega arith, at_tail tail refl ∙ sym s)
      | no k ↦
          let (i, a, b, s) = t.all d l (rw (cut_other d k) at g) in
          (i, a, omega arith, (before i (omega arith) (λ z. (let y : ⊥ = omega arith in y))).1 ∙ s)
    ]

    pub touched_new : Touched m n begin (set cut c v) (set touched tail c) 0 (tail + 1)
    touched_new = record {
      fits = simp length-set t.fits;
      within = omega (arith, touched_room);
      parts = λ i _ l. parts i l;
      some = λ i _ l. some i l;
      differ = λ i j _ l _ k e. apart' i j l k e;
      all = all;
    }

-- one class more is marked of a part that was touched
pub touched_same : {m n : ℕ} {begin cut touched : List ℕ} {tail c v : ℕ} → Touched m n begin cut touched 0 tail → c < n → get_or begin c 0 < get_or cut c 0 → get_or begin c 0 < v → c < length cut → Touched m n begin (set cut c v) touched 0 tail
touched_same {m} {n} {begin} {cut} {touched} {tail} {c} {v} t h was more room = record {
  fits = t.fits;
  within = t.within;
  parts = t.parts;
  some = λ i a l. elim (ℕ_discrete (get_or touched i 0) c) [
    | yes e ↦ subst (λ d. get_or begin d 0 < get_or (set cut c v) d 0) (sym e) (rw (get_or-set_same cut c v 0 room) more)
    | no k ↦ rw (get_or-set_other cut c (get_or touched i 0) v 0 k) (t.some i a l)
  ];
  differ = t.differ;
  all = λ d l g. elim (ℕ_discrete d c) [
    | yes e ↦ t.all d l (subst (λ d. get_or begin d 0 < get_or cut d 0) (sym e) was)
    | no k ↦ t.all d l (rw (get_or-set_other cut c d v 0 k) at g)
  ];
}

-- class p, which is not marked, has changed places with the first of its part that is not
module _ {m n : ℕ} {order place part begin end cut : List ℕ} (a : Arranged m n order place part begin end cut) {p : ℕ} (hp : p < m) (free : get_or cut (get_or part p 0) 0 ≤ get_or place p 0) where
  at : ℕ
  at = get_or cut (get_or part p 0) 0

  at_below : get_or cut (get_or part p 0) 0 < m
  at_below = omega (arith, a.inverse.place_below p hp)

  pub first_below : get_or order (get_or cut (get_or part p 0) 0) 0 < m
  first_below = a.inverse.order_below (get_or cut (get_or part p 0) 0) at_below

  first_place : get_or place (get_or order (get_or cut (get_or part p 0) 0) 0) 0 ≡ get_or cut (get_or part p 0) 0
  first_place = a.inverse.place_order (get_or cut (get_or part p 0) 0) at_below

  part_below : get_or part p 0 < n
  part_below = a.parts.below p hp

  first_part : get_or part (get_or order (get_or cut (get_or part p 0) 0) 0) 0 ≡ get_or part p 0
  first_part =
      let e = first_place in
      let f = a.cuts.from (get_or part p 0) part_below in
      let t = a.parts.to p hp in
      a.parts.own (get_or part p 0) (get_or order (get_or cut (get_or part p 0) 0) 0) part_below first_below (omega arith) (omega arith)

  pub cut_fits : get_or part p 0 < length cut
  cut_fits = omega (arith, part_below, a.few, a.cuts.fits)

  module _ {order' place' : List ℕ} (i : Inverse m order' place') (s : Swapped m p (get_or order (get_or cut (get_or part p 0) 0) 0) place place') where
    q : ℕ
    q = get_or order (get_or cut (get_or part p 0) 0) 0

    cut' : List ℕ
    cut' = set cut (get_or part p 0) (get_or cut (get_or part p 0) 0 + 1)

    here : get_or (set cut (get_or part p 0) (get_or cut (get_or part p 0) 0 + 1)) (get_or part p 0) 0 ≡ get_or cut (get_or part p 0) 0 + 1
    here = get_or-set_same cut (get_or part p 0) (get_or cut (get_or part p 0) 0 + 1) 0 cut_fits

    else : (d : ℕ) → (d ≡ get_or part p 0 → ⊥) → get_or (set cut (get_or part p 0) (get_or cut (get_or part p 0) 0 + 1)) d 0 ≡ get_or cut d 0
    else d k = get_or-set_other cut (get_or part p 0) d (get_or cut (get_or part p 0) 0 + 1) 0 k

    pub arranged_marked : Arranged m n order' place' part begin end (set cut (get_or part p 0) (get_or cut (get_or part p 0) 0 + 1))
    arranged_marked = record {
      few = a.few;
      inverse = i;
      parts = parts_swapped a.parts s hp first_below first_part;
      cuts = record {
        fits = simp length-set a.cuts.fits;
        from = λ d h. elim (ℕ_discrete d (get_or part p 0)) [
          | yes e ↦ (let f = a.cuts.from d h in let g = here in let k = ap (λ d. get_or cut d 0) e in let l = ap (λ d. get_or (set cut (get_or part p 0) (get_or cut (get_or part p 0) 0 + 1)) d 0) e in omega arith)
          | no k ↦ rw (else d k) (a.cuts.from d h)
        ];
        to = λ d h. elim (ℕ_discrete d (get_or part p 0)) [
          | yes e ↦ (let f = a.parts.to p hp in let g = here in let k = ap (λ d. get_or end d 0) e in let l = ap (λ d. get_or (set cut (get_or part p 0) (get_or cut (get_or part p 0) 0 + 1)) d 0) e in omega arith)
          | no k ↦ rw (else d k) (a.cuts.to d h)
        ];
      };
    }

    -- a class stands at the old cut only if it is the first that was not marked
    only_first : (x : ℕ) → x < m → get_or place x 0 ≡ get_or cut (get_or part p 0) 0 → x ≡ get_or order (get_or cut (get_or part p 0) 0) 0
    only_first x h e = sym (a.inverse.order_place x h) ∙ ap (λ i. get_or order i 0) e

    -- p is marked
    new : Marked place' part (set cut (get_or part p 0) (get_or cut (get_or part p 0) 0 + 1)) p
    new = let e = s.here in let f = first_place in let g = here in omega arith

    -- of the other classes those that were
    old : (x : ℕ) → x < m → Marked place part cut x → Marked place' part (set cut (get_or part p 0) (get_or cut (get_or part p 0) 0 + 1)) x
    old x h k = elim (ℕ_discrete x p) [
      | yes e ↦ subst (λ x. Marked place' part (set cut (get_or part p 0) (get_or cut (get_or part p 0) 0 + 1)) x) (sym e) new
      | no n ↦ elim (ℕ_discrete x (get_or order (get_or cut (get_or part p 0) 0) 0)) [
        | yes e ↦
            let f = first_place in
            let g = first_part in
            let u = ap (λ x. get_or place x 0) e in
            let v = ap (λ x. get_or cut (get_or part x 0) 0) e ∙ ap (λ d. get_or cut d 0) g in
            let z : ⊥ = omega arith in absurd z
        | no r ↦
            let o = s.other x h n r in
            elim (ℕ_discrete (get_or part x 0) (get_or part p 0)) [
              | yes e ↦ (let g = here in let l = ap (λ d. get_or (set cut (get_or part p 0) (get_or cut (get_or part p 0) 0 + 1)) d 0) e in let w = ap (λ d. get_or cut d 0) e in omega arith)
              | no d ↦ (let l = else (get_or part x 0) d in omega arith)
            ]
      ]
    ]

    only : (x : ℕ) → x < m → Marked place' part (set cut (get_or part p 0) (get_or cut (get_or part p 0) 0 + 1)) x → Marked place part cut x ⊎ (x ≡ p)
    only x h k = elim (ℕ_discrete x p) [
      | yes e ↦ inr e
      | no n ↦ elim (ℕ_discrete x (get_or order (get_or cut (get_or part p 0) 0) 0)) [
        | yes e ↦
            let t = s.there in
            let u = ap (λ x. get_or place' x 0) e in
            let g = here in
            let v = ap (λ x. get_or (set cut (get_or part p 0) (get_or cut (get_or part p 0) 0 + 1)) (get_or part x 0) 0) e ∙ ap (λ d. get_or (set cut (get_or part p 0) (get_or cut (get_or part p 0) 0 + 1)) d 0) first_part in
            let w : get_or place p 0 ≡ get_or cut (get_or part p 0) 0 = omega arith in
            inr (e ∙ sym (only_first p hp w))
        | no r ↦
            let o = s.other x h n r in
            elim (ℕ_discrete (get_or part x 0) (get_or part p 0)) [
              | yes e ↦
                  let g = here in
                  let l = ap (λ d. get_or (set cut (get_or part p 0) (get_or cut (get_or part p 0) 0 + 1)) d 0) e in
                  let w = ap (λ d. get_or cut d 0) e in
                  elim (ℕ_discrete (get_or place x 0) (get_or cut (get_or part p 0) 0)) [ yes y ↦ absurd (r (only_first x h y)) | no y ↦ inl (omega arith) ]
              | no d ↦ inl (let l = else (get_or part x 0) d in omega arith)
            ]
      ]
    ]

    module _ {touched' : List ℕ} {tail' : ℕ} where
      grown_marked : Touched m n begin (set cut (get_or part p 0) (get_or cut (get_or part p 0) 0 + 1)) touched' 0 tail' → Grown m n (λ x. x ≡ p) place part begin end cut order' place' (set cut (get_or part p 0) (get_or cut (get_or part p 0) 0 + 1)) touched' tail'
      grown_marked t = record {
        arranged = arranged_marked;
        touched = t;
        old = old;
        new = λ x h e. subst (λ x. Marked place' part (set cut (get_or part p 0) (get_or cut (get_or part p 0) 0 + 1)) x) (sym e) new;
        only = only;
      }

    pub grown_first : {touched : List ℕ} {tail : ℕ} → Touched m n begin cut touched 0 tail → get_or cut (get_or part p 0) 0 ≡ get_or begin (get_or part p 0) 0 →
        Grown m n (λ x. x ≡ p) place part begin end cut order' place' (set cut (get_or part p 0) (get_or cut (get_or part p 0) 0 + 1)) (set touched tail (get_or part p 0)) (tail + 1)
    grown_first {touched} {tail} t e = grown_marked (touched_new t part_below e a.few (get_or cut (get_or part p 0) 0 + 1) cut_fits (omega arith))

    pub grown_again : {touched : List ℕ} {tail : ℕ} → Touched m n begin cut touched 0 tail → (get_or cut (get_or part p 0) 0 ≡ get_or begin (get_or part p 0) 0 → ⊥) →
        Grown m n (λ x. x ≡ p) place part begin end cut order' place' (set cut (get_or part p 0) (get_or cut (get_or part p 0) 0 + 1)) touched tail
    grown_again {touched} {tail} t k = (let f = a.cuts.from (get_or part p 0) part_below in grown_marked (touched_same t part_below (omega arith) (omega arith) cut_fits))

-- the classes of a part, copied
copied : (order members self : List ℕ) (f t : ℕ) → t ≤ length order → f ≤ t → self ≡ take (t - f) (drop f order) → (i : ℕ) → i < t - f → get_or (self ++ drop (t - f) members) i 0 ≡ get_or order (f + i) 0
copied order members self f t h k e i l =
    let n : length self ≡ t - f = ap length e ∙ length-take-le (t - f) (drop f order) (simp length-drop (omega arith)) in
    get_or_append_left self (drop (t - f) members) 0 i (omega arith) ∙ ap (λ s. get_or s i 0) e ∙ part_at order f (t - f) i l

pub members_listed : {m n : ℕ} {order place part begin end : List ℕ} → Inverse m order place → Parts m n place part begin end → (b : ℕ) → b < n → (members self : List ℕ) → m ≤ length members → self ≡ take (get_or end b 0 - get_or begin b 0) (drop (get_or begin b 0) order) → Members m part b (self ++ drop (get_or end b 0 - get_or begin b 0) members) (get_or end b 0 - get_or begin b 0)
members_listed {m} {n} {order} {place} {part} {begin} {end} inv ps b h members self room e =
    let f = get_or begin b 0 in
    let t = get_or end b 0 in
    let w : t ≤ m = ps.within b h in
    let s : f < t = ps.some b h in
    let o : t ≤ length order = omega (arith, inv.order_fits) in
    let at = copied order members self f t o (omega arith) e in
    let n : length self ≡ t - f = ap length e ∙ length-take-le (t - f) (drop f order) (simp length-drop (omega arith)) in
    record {
      fits = simp (length-append, length-drop) (omega arith);
      each = λ i l. rw (at i l) (inv.order_below (f + i) (omega arith));
      of = λ i l. (let g : f + i < m = omega arith in let p = inv.place_order (f + i) g in
          ap (λ q. get_or part q 0) (at i l) ∙ ps.own b (get_or order (f + i) 0) h (inv.order_below (f + i) g) (omega arith) (omega arith));
      all = λ q hq s. (
          let u : f ≤ get_or place q 0 = subst (λ d. get_or begin d 0 ≤ get_or place q 0) s (ps.from q hq) in
          let v : get_or place q 0 < t = subst (λ d. get_or place q 0 < get_or end d 0) s (ps.to q hq) in
          let i = get_or place q 0 - f in
          let l : i < t - f = omega arith in
          let y : f + i ≡ get_or place q 0 = omega arith in
          (i, l, at i l ∙ ap (λ p. get_or order p 0) y ∙ inv.order_place q hq));
    }
