-- Parts cut where they are marked: one part, all that are touched, and that this is one step of
-- splitting.
use Rattle.std.proofs.Common.{◌≡◌, ℕ, suc, ◌+◌, ◌<◌, ◌≤◌, ◌⊎◌, ◌↔◌, List, length, get_or, set, sym, refl, ap, ◌∙◌, subst, inl, inr, arith}
use native.Mathlib.Decide.{ℕ_discrete, dec_lt}
use Rattle.std.proofs.lemmas.List.{get_or-set_same, get_or-set_other, length-set}
use Rattle.automata.proofs.Counting.{pigeon}
use Rattle.automata.proofs.Exploring.{upd, upd_here, upd_else}
use Rattle.splitting.specs.Places.{Arranged, Marked, Unmarked, Touched}
use Rattle.splitting.specs.Cutting.{Halved, Recut, Cutting, CutPart}

-- steps one after the other
pub recut_none : {m n : ℕ} {part : ℕ → ℕ} {M : ℕ → Type 0} → Recut m n part M part M
recut_none = record { same = λ p q hp hq e i. (e, i); told = λ p q hp hq e i. (e, i); kept = λ p h. inl refl }

pub recut_then : {m n n' : ℕ} {part part' part'' : ℕ → ℕ} {M M' M'' : ℕ → Type 0} → n ≤ n' → Recut m n part M part' M' → Recut m n' part' M' part'' M'' → Recut m n part M part'' M''
recut_then {part'' = part''} l a b = record {
  same = λ p q hp hq e i. (let (f, j) = a.same p q hp hq e i in b.same p q hp hq f j);
  told = λ p q hp hq e i. (let (f, j) = b.told p q hp hq e i in a.told p q hp hq f j);
  kept = λ p h. elim (b.kept p h) [
    | inl e ↦ elim (a.kept p h) [ inl f ↦ inl (e ∙ f) | inr f ↦ inr (omega arith) ]
    | inr e ↦ inr (omega arith)
  ];
}

module _ {m n : ℕ} {order place part begin end cut : List ℕ} (a : Arranged m n order place part begin end cut) {c : ℕ} (hc : c < n) where
  -- the places of part c
  in_part : (q : ℕ) → q < m → get_or part q 0 ≡ c → (get_or begin c 0 ≤ get_or place q 0) × (get_or place q 0 < get_or end c 0)
  in_part q h e = (subst (λ d. get_or begin d 0 ≤ get_or place q 0) e (a.parts.from q h), subst (λ d. get_or place q 0 < get_or end d 0) e (a.parts.to q h))

  pub at_below : get_or cut c 0 < get_or end c 0 → get_or cut c 0 < m
  at_below l = omega (arith, a.parts.within c hc)

  -- a part that has both sorts of classes leaves room for one more
  pub room_for_one : get_or begin c 0 < get_or cut c 0 → get_or cut c 0 < get_or end c 0 → n < m
  room_for_one l r = pigeon (suc n) m f below apart
    where
      first : ℕ → ℕ
      first i = get_or order (get_or begin i 0) 0

      begin_below : (i : ℕ) → i < n → get_or begin i 0 < m
      begin_below i h = omega (arith, a.parts.some i h, a.parts.within i h)

      first_in : (i : ℕ) → i < n → get_or part (first i) 0 ≡ i
      first_in i h =
          let b = begin_below i h in
          let e = a.inverse.place_order (get_or begin i 0) b in
          let s = a.parts.some i h in
          a.parts.own i (get_or order (get_or begin i 0) 0) h (a.inverse.order_below (get_or begin i 0) b) (omega arith) (omega arith)

      f : ℕ → ℕ
      f = upd first n (get_or order (get_or cut c 0) 0)

      here : f n ≡ get_or order (get_or cut c 0) 0
      here = upd_here first n (get_or order (get_or cut c 0) 0)

      else : (i : ℕ) → (i ≡ n → ⊥) → f i ≡ first i
      else i k = upd_else first n (get_or order (get_or cut c 0) 0) i k

      below : (i : ℕ) → i < suc n → f i < m
      below i h = elim (ℕ_discrete i n) [
        | yes e ↦ rw (e, here) (a.inverse.order_below (get_or cut c 0) (at_below r))
        | no k ↦ rw (else i k) (a.inverse.order_below (get_or begin i 0) (begin_below i (omega arith)))
      ]

      -- the first class that is not marked is the first of no part
      other : (i : ℕ) → i < n → first i ≡ get_or order (get_or cut c 0) 0 → ⊥
      other i h e =
          let p : get_or begin i 0 ≡ get_or cut c 0 = sym (a.inverse.place_order (get_or begin i 0) (begin_below i h)) ∙ ap (λ q. get_or place q 0) e ∙ a.inverse.place_order (get_or cut c 0) (at_below r) in
          let o : get_or part (get_or order (get_or cut c 0) 0) 0 ≡ c = (let g = a.inverse.place_order (get_or cut c 0) (at_below r) in a.parts.own c (get_or order (get_or cut c 0) 0) hc (a.inverse.order_below (get_or cut c 0) (at_below r)) (omega arith) (omega arith)) in
          let s : i ≡ c = sym (first_in i h) ∙ ap (λ q. get_or part q 0) e ∙ o in
          let t = ap (λ i. get_or begin i 0) s in
          omega arith

      apart : (i j : ℕ) → i < suc n → j < suc n → f i ≡ f j → i ≡ j
      apart i j hi hj e = elim (ℕ_discrete i n) [
        | yes s ↦ elim (ℕ_discrete j n) [
          | yes t ↦ s ∙ sym t
          | no t ↦ absurd (other j (omega arith) (sym (else j t) ∙ sym e ∙ ap f s ∙ here))
        ]
        | no s ↦ elim (ℕ_discrete j n) [
          | yes t ↦ absurd (other i (omega arith) (sym (else i s) ∙ e ∙ ap f t ∙ here))
          | no t ↦ sym (first_in i (omega arith)) ∙ ap (λ q. get_or part q 0) (sym (else i s) ∙ e ∙ else j t) ∙ first_in j (omega arith)
        ]
      ]

  -- all of the part is marked: nothing is cut
  module _ (whole : get_or cut c 0 ≡ get_or end c 0) (cut' : List ℕ) (here : get_or cut' c 0 ≡ get_or begin c 0) (other : (d : ℕ) → (d ≡ c → ⊥) → get_or cut' d 0 ≡ get_or cut d 0) (fits : m ≤ length cut') where
    unmarked : (q : ℕ) → q < m → get_or part q 0 ≡ c → Marked place part cut' q → ⊥
    unmarked q h e k = let l = in_part q h e in let y = ap (λ d. get_or cut' d 0) e in omega (arith, here, l.0)

    marked : (q : ℕ) → q < m → get_or part q 0 ≡ c → Marked place part cut q
    marked q h e = let l = in_part q h e in let y = ap (λ d. get_or cut d 0) e in omega (arith, l.1)

    pub cut_whole : CutPart m n c order place part begin end cut n part begin end cut'
    cut_whole = record {
      cutting = record {
        more = omega arith;
        arranged = record {
          few = a.few;
          inverse = a.inverse;
          parts = a.parts;
          cuts = record {
            fits = fits;
            from = λ d h. elim (ℕ_discrete d c) [ yes e ↦ (let s = ap (λ d. get_or cut' d 0) e in let t = ap (λ d. get_or begin d 0) e in omega arith) | no k ↦ rw (other d k) (a.cuts.from d h) ];
            to = λ d h. elim (ℕ_discrete d c) [ yes e ↦ (let s = ap (λ d. get_or cut' d 0) e in let t = ap (λ d. get_or end d 0) e in let u = a.parts.some c hc in omega arith) | no k ↦ rw (other d k) (a.cuts.to d h) ];
          };
        };
        recut = record {
          same = λ p q hp hq e i. elim (ℕ_discrete (get_or part p 0) c) [
            | yes s ↦ (e, (λ k. absurd (unmarked p hp s k), λ k. absurd (unmarked q hq (sym e ∙ s) k)))
            | no s ↦ (e, (λ k. rw (other (get_or part q 0) (λ z. s (e ∙ z))) (i.0 (rw (other (get_or part p 0) s) at k)), λ k. rw (other (get_or part p 0) s) (i.1 (rw (other (get_or part q 0) (λ z. s (e ∙ z))) at k))))
          ];
          told = λ p q hp hq e i. elim (ℕ_discrete (get_or part p 0) c) [
            | yes s ↦ (e, (λ k. marked q hq (sym e ∙ s), λ k. marked p hp s))
            | no s ↦ (e, (λ k. rw (other (get_or part q 0) (λ z. s (e ∙ z))) at (i.0 (rw (other (get_or part p 0) s) k)), λ k. rw (other (get_or part p 0) s) at (i.1 (rw (other (get_or part q 0) (λ z. s (e ∙ z))) k))))
          ];
          kept = λ p h. inl refl;
        };
      };
      others = λ d h k. (refl, other d k);
      clean = λ d h e. elim e [ inl s ↦ rw s here | inr s ↦ (let z : ⊥ = omega arith in absurd z) ];
    }

  -- the part is cut in two: part n gets the places from nf to nt, and part c keeps those from of to
  -- ot
  module _ (l : get_or begin c 0 < get_or cut c 0) (r : get_or cut c 0 < get_or end c 0) {nf nt of ot : ℕ} (halved : Halved (get_or begin c 0) (get_or cut c 0) (get_or end c 0) nf nt of ot)
      (part' begin' end' cut' : List ℕ) (part_fits : m ≤ length part') (begin_fits : m ≤ length begin') (end_fits : m ≤ length end') (cut_fits : m ≤ length cut')
      (begin_new : get_or begin' n 0 ≡ nf) (end_new : get_or end' n 0 ≡ nt) (cut_new : get_or cut' n 0 ≡ nf)
      (begin_old : get_or begin' c 0 ≡ of) (end_old : get_or end' c 0 ≡ ot) (cut_old : get_or cut' c 0 ≡ of)
      (begin_other : (d : ℕ) → (d ≡ n → ⊥) → (d ≡ c → ⊥) → get_or begin' d 0 ≡ get_or begin d 0) (end_other : (d : ℕ) → (d ≡ n → ⊥) → (d ≡ c → ⊥) → get_or end' d 0 ≡ get_or end d 0) (cut_other : (d : ℕ) → (d ≡ n → ⊥) → (d ≡ c → ⊥) → get_or cut' d 0 ≡ get_or cut d 0)
      (piece : (i : ℕ) → nf ≤ i → i < nt → get_or part' (get_or order i 0) 0 ≡ n) (rest : (q : ℕ) → ((i : ℕ) → nf ≤ i → i < nt → get_or order i 0 ≡ q → ⊥) → get_or part' q 0 ≡ get_or part q 0) where
    split : (i : ℕ) → get_or begin c 0 ≤ i → i < get_or end c 0 → ((nf ≤ i) × (i < nt)) ⊎ ((of ≤ i) × (i < ot))
    split i f t = elim halved.pieces [
      | inl e ↦ (let (w, x, y, z) = e in elim (dec_lt i (get_or cut c 0)) [ yes k ↦ inl (omega arith, omega arith) | no k ↦ inr (omega arith, omega arith) ])
      | inr e ↦ (let (w, x, y, z) = e in elim (dec_lt i (get_or cut c 0)) [ yes k ↦ inr (omega arith, omega arith) | no k ↦ inl (omega arith, omega arith) ])
    ]

    new_within : (i : ℕ) → nf ≤ i → i < nt → (get_or begin c 0 ≤ i) × (i < get_or end c 0)
    new_within i f t = elim halved.pieces [ inl e ↦ (let (w, x, y, z) = e in (omega arith, omega arith)) | inr e ↦ (let (w, x, y, z) = e in (omega arith, omega arith)) ]

    old_within : (i : ℕ) → of ≤ i → i < ot → (get_or begin c 0 ≤ i) × (i < get_or end c 0)
    old_within i f t = elim halved.pieces [ inl e ↦ (let (w, x, y, z) = e in (omega arith, omega arith)) | inr e ↦ (let (w, x, y, z) = e in (omega arith, omega arith)) ]

    disjoint : (i : ℕ) → nf ≤ i → i < nt → of ≤ i → i < ot → ⊥
    disjoint i f t g u = elim halved.pieces [ inl e ↦ (let (w, x, y, z) = e in omega arith) | inr e ↦ (let (w, x, y, z) = e in omega arith) ]

    some_new : nf < nt
    some_new = elim halved.pieces [ inl e ↦ (let (w, x, y, z) = e in omega arith) | inr e ↦ (let (w, x, y, z) = e in omega arith) ]

    some_old : of < ot
    some_old = elim halved.pieces [ inl e ↦ (let (w, x, y, z) = e in omega arith) | inr e ↦ (let (w, x, y, z) = e in omega arith) ]

    new_end : nt ≤ get_or end c 0
    new_end = elim halved.pieces [ inl e ↦ (let (w, x, y, z) = e in omega arith) | inr e ↦ (let (w, x, y, z) = e in omega arith) ]

    old_end : ot ≤ get_or end c 0
    old_end = elim halved.pieces [ inl e ↦ (let (w, x, y, z) = e in omega arith) | inr e ↦ (let (w, x, y, z) = e in omega arith) ]

    -- a piece is marked as a whole or not at all, and not both are
    new_alike : (i j : ℕ) → nf ≤ i → i < nt → nf ≤ j → j < nt → i < get_or cut c 0 → j < get_or cut c 0
    new_alike i j f t g u k = elim halved.pieces [ inl e ↦ (let (w, x, y, z) = e in omega arith) | inr e ↦ (let (w, x, y, z) = e in omega arith) ]

    old_alike : (i j : ℕ) → of ≤ i → i < ot → of ≤ j → j < ot → i < get_or cut c 0 → j < get_or cut c 0
    old_alike i j f t g u k = elim halved.pieces [ inl e ↦ (let (w, x, y, z) = e in omega arith) | inr e ↦ (let (w, x, y, z) = e in omega arith) ]

    apart : (i j : ℕ) → nf ≤ i → i < nt → of ≤ j → j < ot → (i < get_or cut c 0) ↔ (j < get_or cut c 0) → ⊥
    apart i j f t g u k = elim halved.pieces [ inl e ↦ (let (w, x, y, z) = e in let h = k.0 (omega arith) in omega arith) | inr e ↦ (let (w, x, y, z) = e in let h = k.1 (omega arith) in omega arith) ]

    -- what becomes of a class: it is in the new piece, or in the old one, or not in part c
    data Becomes (q : ℕ) : Type 0 where
      fresh : get_or part q 0 ≡ c → nf ≤ get_or place q 0 → get_or place q 0 < nt → get_or part' q 0 ≡ n → Becomes q
      stays : get_or part q 0 ≡ c → of ≤ get_or place q 0 → get_or place q 0 < ot → get_or part' q 0 ≡ c → Becomes q
      else : (get_or part q 0 ≡ c → ⊥) → get_or part' q 0 ≡ get_or part q 0 → Becomes q

    not_in : (q : ℕ) → q < m → ((nf ≤ get_or place q 0) → get_or place q 0 < nt → ⊥) → get_or part' q 0 ≡ get_or part q 0
    not_in q h k = rest q (λ i f t e. (let p = new_within i f t in let s : get_or place q 0 ≡ i = ap (λ q. get_or place q 0) (sym e) ∙ a.inverse.place_order i (omega (arith, a.parts.within c hc)) in k (omega arith) (omega arith)))

    becomes : (q : ℕ) → q < m → Becomes q
    becomes q h = elim (ℕ_discrete (get_or part q 0) c) [
      | yes e ↦ (let (f, t) = in_part q h e in elim (split (get_or place q 0) f t) [
        | inl g ↦ fresh e g.0 g.1 (ap (λ q. get_or part' q 0) (sym (a.inverse.order_place q h)) ∙ piece (get_or place q 0) g.0 g.1)
        | inr g ↦ stays e g.0 g.1 (not_in q h (λ x y. disjoint (get_or place q 0) x y g.0 g.1) ∙ e)
      ])
      | no k ↦ else k (not_in q h (λ x y. (let (f, t) = new_within (get_or place q 0) x y in k (a.parts.own c q hc h f t))))
    ]

    part_is_not_new : (q : ℕ) → q < m → get_or part q 0 ≡ n → ⊥
    part_is_not_new q h e = (let b = a.parts.below q h in omega arith)

    below : (q : ℕ) → q < m → get_or part' q 0 < n + 1
    below q h = elim (becomes q h) [ fresh e f t s ↦ omega arith | stays e f t s ↦ omega arith | else k s ↦ (let b = a.parts.below q h in omega arith) ]

    from : (q : ℕ) → q < m → get_or begin' (get_or part' q 0) 0 ≤ get_or place q 0
    from q h = elim (becomes q h) [
      | fresh e f t s ↦ rw (s, begin_new) f
      | stays e f t s ↦ rw (s, begin_old) f
      | else k s ↦ rw (s, begin_other (get_or part q 0) (part_is_not_new q h) k) (a.parts.from q h)
    ]

    to : (q : ℕ) → q < m → get_or place q 0 < get_or end' (get_or part' q 0) 0
    to q h = elim (becomes q h) [
      | fresh e f t s ↦ rw (s, end_new) t
      | stays e f t s ↦ rw (s, end_old) t
      | else k s ↦ rw (s, end_other (get_or part q 0) (part_is_not_new q h) k) (a.parts.to q h)
    ]

    -- what holds of the new part, of part c and of the others holds of all
    each : (P : ℕ → Type 0) → P n → P c → ((d : ℕ) → d < n → (d ≡ n → ⊥) → (d ≡ c → ⊥) → P d) → (d : ℕ) → d < n + 1 → P d
    each P x y z d h = elim (ℕ_discrete d n) [ yes e ↦ subst P (sym e) x | no k ↦ elim (ℕ_discrete d c) [ yes e ↦ subst P (sym e) y | no j ↦ z d (omega arith) k j ] ]

    own : (d q : ℕ) → d < n + 1 → q < m → get_or begin' d 0 ≤ get_or place q 0 → get_or place q 0 < get_or end' d 0 → get_or part' q 0 ≡ d
    own d q h g = each (λ d. get_or begin' d 0 ≤ get_or place q 0 → get_or place q 0 < get_or end' d 0 → get_or part' q 0 ≡ d)
        (λ f t. (let x : nf ≤ get_or place q 0 = omega arith in let y : get_or place q 0 < nt = omega arith in ap (λ q. get_or part' q 0) (sym (a.inverse.order_place q g)) ∙ piece (get_or place q 0) x y))
        (λ f t. (let x : of ≤ get_or place q 0 = omega arith in let y : get_or place q 0 < ot = omega arith in let (u, v) = old_within (get_or place q 0) x y in
        not_in q g (λ i j. disjoint (get_or place q 0) i j x y) ∙ a.parts.own c q hc g u v))
        (λ d hd k j f t. (let e = a.parts.own d q hd g (rw (begin_other d k j) at f) (rw (end_other d k j) at t) in
        not_in q g (λ x y. (let (u, v) = new_within (get_or place q 0) x y in j (sym e ∙ a.parts.own c q hc g u v))) ∙ e))
        d h

    arranged : Arranged m (n + 1) order place part' begin' end' cut'
    arranged = record {
      few = omega (arith, room_for_one l r);
      inverse = a.inverse;
      parts = record {
        part_fits = part_fits;
        begin_fits = begin_fits;
        end_fits = end_fits;
        below = below;
        from = from;
        to = to;
        within = each (λ d. get_or end' d 0 ≤ m) (omega (arith, new_end, a.parts.within c hc)) (omega (arith, old_end, a.parts.within c hc)) (λ d h k j. rw (end_other d k j) (a.parts.within d h));
        some = each (λ d. get_or begin' d 0 < get_or end' d 0) (omega (arith, some_new)) (omega (arith, some_old)) (λ d h k j. rw (begin_other d k j, end_other d k j) (a.parts.some d h));
        own = own;
      };
      cuts = record {
        fits = cut_fits;
        from = each (λ d. get_or begin' d 0 ≤ get_or cut' d 0) (omega arith) (omega arith) (λ d h k j. rw (begin_other d k j, cut_other d k j) (a.cuts.from d h));
        to = each (λ d. get_or cut' d 0 ≤ get_or end' d 0) (omega (arith, some_new)) (omega (arith, some_old)) (λ d h k j. rw (cut_other d k j, end_other d k j) (a.cuts.to d h));
      };
    }

    -- whether a class is marked, by where it stands
    mark_of : (q : ℕ) → get_or part q 0 ≡ c → Marked place part cut q ↔ (get_or place q 0 < get_or cut c 0)
    mark_of q e = (λ k. subst (λ d. get_or place q 0 < get_or cut d 0) e k, λ k. subst (λ d. get_or place q 0 < get_or cut d 0) (sym e) k)

    fresh_unmarked : (q : ℕ) → nf ≤ get_or place q 0 → get_or part' q 0 ≡ n → Marked place part' cut' q → ⊥
    fresh_unmarked q f s k = (let y = ap (λ d. get_or cut' d 0) s in omega arith)

    stays_unmarked : (q : ℕ) → of ≤ get_or place q 0 → get_or part' q 0 ≡ c → Marked place part' cut' q → ⊥
    stays_unmarked q f s k = (let y = ap (λ d. get_or cut' d 0) s in omega arith)

    else_marked : (q : ℕ) → q < m → (get_or part q 0 ≡ c → ⊥) → get_or part' q 0 ≡ get_or part q 0 → Marked place part' cut' q ↔ Marked place part cut q
    else_marked q h k s =
        let e : get_or cut' (get_or part' q 0) 0 ≡ get_or cut (get_or part q 0) 0 = ap (λ d. get_or cut' d 0) s ∙ cut_other (get_or part q 0) (part_is_not_new q h) k in
        (λ x. subst (λ v. get_or place q 0 < v) e x, λ x. subst (λ v. get_or place q 0 < v) (sym e) x)

    same : (p q : ℕ) → p < m → q < m → get_or part p 0 ≡ get_or part q 0 → Marked place part cut p ↔ Marked place part cut q → (get_or part' p 0 ≡ get_or part' q 0) × (Marked place part' cut' p ↔ Marked place part' cut' q)
    same p q hp hq e i = elim (becomes p hp) [
      | fresh x f t s ↦ elim (becomes q hq) [
        | fresh y g u v ↦ (s ∙ sym v, (λ k. absurd (fresh_unmarked p f s k), λ k. absurd (fresh_unmarked q g v k)))
        | stays y g u v ↦ absurd (apart (get_or place p 0) (get_or place q 0) f t g u (λ k. (mark_of q y).0 (i.0 ((mark_of p x).1 k)), λ k. (mark_of p x).0 (i.1 ((mark_of q y).1 k))))
        | else y v ↦ absurd (y (sym e ∙ x))
      ]
      | stays x f t s ↦ elim (becomes q hq) [
        | fresh y g u v ↦ absurd (apart (get_or place q 0) (get_or place p 0) g u f t (λ k. (mark_of p x).0 (i.1 ((mark_of q y).1 k)), λ k. (mark_of q y).0 (i.0 ((mark_of p x).1 k))))
        | stays y g u v ↦ (s ∙ sym v, (λ k. absurd (stays_unmarked p f s k), λ k. absurd (stays_unmarked q g v k)))
        | else y v ↦ absurd (y (sym e ∙ x))
      ]
      | else x s ↦ elim (becomes q hq) [
        | fresh y g u v ↦ absurd (x (e ∙ y))
        | stays y g u v ↦ absurd (x (e ∙ y))
        | else y v ↦ (s ∙ e ∙ sym v, (λ k. (else_marked q hq y v).1 (i.0 ((else_marked p hp x s).0 k)), λ k. (else_marked p hp x s).1 (i.1 ((else_marked q hq y v).0 k))))
      ]
    ]

    told : (p q : ℕ) → p < m → q < m → get_or part' p 0 ≡ get_or part' q 0 → Marked place part' cut' p ↔ Marked place part' cut' q → (get_or part p 0 ≡ get_or part q 0) × (Marked place part cut p ↔ Marked place part cut q)
    told p q hp hq e i = elim (becomes p hp) [
      | fresh x f t s ↦ elim (becomes q hq) [
        | fresh y g u v ↦ (x ∙ sym y, (λ k. (mark_of q y).1 (new_alike (get_or place p 0) (get_or place q 0) f t g u ((mark_of p x).0 k)), λ k. (mark_of p x).1 (new_alike (get_or place q 0) (get_or place p 0) g u f t ((mark_of q y).0 k))))
        | stays y g u v ↦ (let z : ⊥ = omega arith in absurd z)
        | else y v ↦ (let b = a.parts.below q hq in let z : ⊥ = omega arith in absurd z)
      ]
      | stays x f t s ↦ elim (becomes q hq) [
        | fresh y g u v ↦ (let z : ⊥ = omega arith in absurd z)
        | stays y g u v ↦ (x ∙ sym y, (λ k. (mark_of q y).1 (old_alike (get_or place p 0) (get_or place q 0) f t g u ((mark_of p x).0 k)), λ k. (mark_of p x).1 (old_alike (get_or place q 0) (get_or place p 0) g u f t ((mark_of q y).0 k))))
        | else y v ↦ absurd (y (sym v ∙ sym e ∙ s))
      ]
      | else x s ↦ elim (becomes q hq) [
        | fresh y g u v ↦ (let b = a.parts.below p hp in let z : ⊥ = omega arith in absurd z)
        | stays y g u v ↦ absurd (x (sym s ∙ e ∙ v))
        | else y v ↦ (sym s ∙ e ∙ v, (λ k. (else_marked q hq y v).0 (i.0 ((else_marked p hp x s).1 k)), λ k. (else_marked p hp x s).0 (i.1 ((else_marked q hq y v).1 k))))
      ]
    ]

    pub cut_pieces : CutPart m n c order place part begin end cut (n + 1) part' begin' end' cut'
    cut_pieces = record {
      cutting = record {
        more = omega arith;
        arranged = arranged;
        recut = record {
          same = same;
          told = told;
          kept = λ p h. elim (becomes p h) [ fresh e f t s ↦ inr (omega arith) | stays e f t s ↦ inl (s ∙ sym e) | else k s ↦ inl s ];
        };
      };
      others = λ d h k. (begin_other d (λ e. (let z : ⊥ = omega arith in z)) k, cut_other d (λ e. (let z : ⊥ = omega arith in z)) k);
      clean = λ d h e. elim e [
        | inl s ↦ (let x = ap (λ d. get_or cut' d 0) s in let y = ap (λ d. get_or begin' d 0) s in omega arith)
        | inr s ↦ (let z : d ≡ n = omega arith in let x = ap (λ d. get_or cut' d 0) z in let y = ap (λ d. get_or begin' d 0) z in omega arith)
      ];
    }

-- where there are as many parts as classes, every class is alone
pub parts_alone : {m n : ℕ} {order place part begin end cut : List ℕ} → Arranged m n order place part begin end cut → Unmarked n begin cut → n ≡ m → (p q : ℕ) → p < m → q < m → get_or part p 0 ≡ get_or part q 0 → p ≡ q
parts_alone {m} {n} {order} {place} {part} {begin} {end} {cut} a u e p q hp hq s = elim (ℕ_discrete p q) [ yes i ↦ i | no k ↦ (let l = room_for_one two hc (omega (arith, here)) (omega (arith, here, wide k)) in let z : ⊥ = omega arith in absurd z) ]
  where
    c : ℕ
    c = get_or part p 0

    hc : get_or part p 0 < n
    hc = a.parts.below p hp

    cut' : List ℕ
    cut' = set cut (get_or part p 0) (get_or begin (get_or part p 0) 0 + 1)

    here : get_or (set cut (get_or part p 0) (get_or begin (get_or part p 0) 0 + 1)) (get_or part p 0) 0 ≡ get_or begin (get_or part p 0) 0 + 1
    here = get_or-set_same cut (get_or part p 0) (get_or begin (get_or part p 0) 0 + 1) 0 (omega (arith, hc, a.few, a.cuts.fits))

    other : (d : ℕ) → (d ≡ get_or part p 0 → ⊥) → get_or (set cut (get_or part p 0) (get_or begin (get_or part p 0) 0 + 1)) d 0 ≡ get_or cut d 0
    other d k = get_or-set_other cut (get_or part p 0) d (get_or begin (get_or part p 0) 0 + 1) 0 k

    two : Arranged m n order place part begin end (set cut (get_or part p 0) (get_or begin (get_or part p 0) 0 + 1))
    two = record {
      few = a.few;
      inverse = a.inverse;
      parts = a.parts;
      cuts = record {
        fits = simp length-set a.cuts.fits;
        from = λ d h. elim (ℕ_discrete d (get_or part p 0)) [ yes i ↦ (let x = ap (λ d. get_or (set cut (get_or part p 0) (get_or begin (get_or part p 0) 0 + 1)) d 0) i in let y = ap (λ d. get_or begin d 0) i in omega (arith, here)) | no k ↦ rw (other d k) (a.cuts.from d h) ];
        to = λ d h. elim (ℕ_discrete d (get_or part p 0)) [ yes i ↦ (let x = ap (λ d. get_or (set cut (get_or part p 0) (get_or begin (get_or part p 0) 0 + 1)) d 0) i in let y = ap (λ d. get_or begin d 0) i in let z = a.parts.some d h in omega (arith, here)) | no k ↦ rw (other d k) (a.cuts.to d h) ];
      };
    }

    -- two classes of one part stand at two places of it
    wide : (p ≡ q → ⊥) → get_or begin (get_or part p 0) 0 + 1 < get_or end (get_or part p 0) 0
    wide k =
        let (f, t) = in_part a hc p hp refl in
        let (g, r) = in_part a hc q hq (sym s) in
        elim (ℕ_discrete (get_or place p 0) (get_or place q 0)) [
          | yes i ↦ absurd (k (sym (a.inverse.order_place p hp) ∙ ap (λ i. get_or order i 0) i ∙ a.inverse.order_place q hq))
          | no i ↦ omega arith
        ]

-- the parts before place i are cut, and those from it on are the parts with marked classes
pub record CuttingTo (m n : ℕ) (order place part begin end cut touched : List ℕ) (i tail : ℕ) (n' : ℕ) (part' begin' end' cut' : List ℕ) : Type 0 where
  pub cutting : Cutting m n order place part begin end cut n' part' begin' end' cut'
  pub left : Touched m n' begin' cut' touched i tail

pub cutting_start : {m n : ℕ} {order place part begin end cut touched : List ℕ} {tail : ℕ} → Arranged m n order place part begin end cut → Touched m n begin cut touched 0 tail → CuttingTo m n order place part begin end cut touched 0 tail n part begin end cut
cutting_start a t = record { cutting = record { more = omega arith; arranged = a; recut = recut_none }; left = t }

module _ {m n : ℕ} {order place part begin end cut touched : List ℕ} {i tail n' n'' : ℕ} {part' begin' end' cut' part'' begin'' end'' cut'' : List ℕ} (h : i < tail)
    (x : CuttingTo m n order place part begin end cut touched i tail n' part' begin' end' cut') (y : CutPart m n' (get_or touched i 0) order place part' begin' end' cut' n'' part'' begin'' end'' cut'') where
  -- the touched parts behind place i are not the one that is cut
  behind : (j : ℕ) → i + 1 ≤ j → j < tail → (get_or begin'' (get_or touched j 0) 0 ≡ get_or begin' (get_or touched j 0) 0) × (get_or cut'' (get_or touched j 0) 0 ≡ get_or cut' (get_or touched j 0) 0)
  behind j g l = y.others (get_or touched j 0) (x.left.parts j (omega arith) l) (λ e. (let s = x.left.differ j i (omega arith) l (omega arith) h e in let z : ⊥ = omega arith in z))

  still : (d : ℕ) → d < n'' → get_or begin'' d 0 < get_or cut'' d 0 → (j : ℕ) × (i + 1 ≤ j) × (j < tail) × (get_or touched j 0 ≡ d)
  still d g k = elim (dec_lt d n') [
    | no o ↦ (let e = y.clean d g (inr (omega arith)) in let z : ⊥ = omega arith in absurd z)
    | yes o ↦ elim (ℕ_discrete d (get_or touched i 0)) [
      | yes s ↦ (let e = y.clean d g (inl s) in let z : ⊥ = omega arith in absurd z)
      | no s ↦
          let (u, v) = y.others d o s in
          let (j, b, t, e) = x.left.all d o (omega arith) in
          (j, elim (ℕ_discrete j i) [ yes q ↦ absurd (s (sym e ∙ ap (λ j. get_or touched j 0) q)) | no q ↦ omega arith ], t, e)
    ]
  ]

  pub cutting_more : CuttingTo m n order place part begin end cut touched (i + 1) tail n'' part'' begin'' end'' cut''
  cutting_more =
      let o = y.cutting.more in
      record {
        cutting = record { more = omega (arith, x.cutting.more); arranged = y.cutting.arranged; recut = recut_then x.cutting.more x.cutting.recut y.cutting.recut };
        left = record {
          fits = x.left.fits;
          within = x.left.within;
          parts = λ j g l. omega (arith, x.left.parts j (omega arith) l);
          some = λ j g l. (let (u, v) = behind j g l in let w = x.left.some j (omega arith) l in omega arith);
          differ = λ j k g l f r e. x.left.differ j k (omega arith) l (omega arith) r e;
          all = still;
        };
      }

pub cutting_clean : {m n : ℕ} {order place part begin end cut touched : List ℕ} {i tail n' : ℕ} {part' begin' end' cut' : List ℕ} → CuttingTo m n order place part begin end cut touched i tail n' part' begin' end' cut' → tail ≤ i → Unmarked n' begin' cut'
cutting_clean {begin' = begin'} {cut' = cut'} x h d g = elim (dec_lt (get_or begin' d 0) (get_or cut' d 0)) [
  | yes k ↦ (let (j, b, t, e) = x.left.all d g k in let z : ⊥ = omega arith in absurd z)
  | no k ↦ (let f = x.cutting.arranged.cuts.from d g in omega arith)
]

-- two words written one after the other, the second before the first
module _ (xs xs' xs'' : List ℕ) (n c v w : ℕ) (first : xs' ≡ set xs n v) (second : xs'' ≡ set xs' c w) (before : c < n) (room : n < length xs) where
  pub twice_new : get_or xs'' n 0 ≡ v
  twice_new = rw (second, first) (get_or-set_other (set xs n v) c n w 0 (λ e. (let z : ⊥ = omega arith in z)) ∙ get_or-set_same xs n v 0 room)

  pub twice_old : get_or xs'' c 0 ≡ w
  twice_old = rw (second, first) (get_or-set_same (set xs n v) c w 0 (simp length-set (omega arith)))

  pub twice_other : (d : ℕ) → (d ≡ n → ⊥) → (d ≡ c → ⊥) → get_or xs'' d 0 ≡ get_or xs d 0
  twice_other d k j = rw (second, first) (get_or-set_other (set xs n v) c d w 0 j ∙ get_or-set_other xs n d v 0 k)

  pub twice_length : length xs'' ≡ length xs
  twice_length = rw (second, first) (simp length-set)
