-- The machine that counts places round and round is right of its claim: a state says how many
-- places have been, and so how many may be left.
use Rattle.std.proofs.Common.{◌≡◌, ℕ, zero, suc, ◌+◌, ◌*◌, ◌<◌, ◌⊎◌, Bool, true, false, cond, eqb, ◌↔◌, [], ◌∷◌, refl, ap, inl, inr, arith}
use mathlib.Core.Bool.{false≢true}
use native.Mathlib.Nat.{suc-mul}
use Rattle.std.proofs.lemmas.Bool.Decides.{eqb_tells, leb_tells}
use Rattle.words.specs.Runs.{run}
use Rattle.words.specs.Words.{Sets, Word, bit, sets}
use Rattle.kinds.specs.Counters.{turn, counter}
use Rattle.kinds.specs.Counts.{Ends, places, Counts}
use Rattle.kinds.specs.Machines.{Right}
use Rattle.kinds.specs.Meaning.{OfAtom, counted}
use Rattle.kinds.specs.declared.atom.Atom.TheVariants.{Counted}
use Rattle.kinds.specs.declared.multiple.Multiple.{Multiple}

-- the places behind the first, of one set and of all
abbrev tail : (ℕ → Bool) → ℕ → Bool
tail s i = s (suc i)

abbrev shift : Sets → Sets
shift v x i = v x (suc i)

ends_tail : (s : ℕ → Bool) (n : ℕ) → Ends s (suc n) → Ends (tail s) n
ends_tail s n e i h = let g = e (suc i) h in omega arith

ends_more : (s : ℕ → Bool) (n : ℕ) → Ends (tail s) n → Ends s (suc n)
ends_more s n e zero h = omega arith
ends_more s n e (suc i) h = let g = e i h in omega arith

ends_up : (s : ℕ → Bool) (n : ℕ) → Ends s n → Ends s (suc n)
ends_up s n e i h = let g = e i h in omega arith

no_place : (b : Bool) → (b ≡ true → 0 < 0) → ◌≡◌ {A = ℕ} (cond b 1 0) 0
no_place true h = let g = h refl in omega arith
no_place false h = refl

-- places behind the end count nothing
places_up : (s : ℕ → Bool) (n : ℕ) → Ends s n → places s (suc n) ≡ places s n
places_up s zero e = let g = no_place (s 0) (e 0) in omega arith
places_up s (suc n) e = ap (λ p. cond (s 0) 1 0 + p) (places_up (tail s) n (ends_tail s n e))

places_none : (n : ℕ) → places (λ i. false) n ≡ 0
places_none zero = refl
places_none (suc n) = let e = places_none n in omega arith

-- the places that are left, and q that have been, make a multiple of m and r besides
abbrev Left : ℕ → ℕ → ℕ → ℕ → Sets → Type 0
Left m r x q v = (n : ℕ) × (t : ℕ) × Ends (v x) n × (places (v x) n + q ≡ t * m + r)

pub turned : (m q : ℕ) → q < m → ((suc q ≡ m) × (turn m q ≡ 0)) ⊎ ((suc q ≡ m → ⊥) × (turn m q ≡ suc q))
turned m q h = elim (leb_tells (suc (suc q)) m) [ inl p ↦ inr (λ e. omega (arith, p.1), rw p.0) | inr p ↦ inl (omega (arith, p.1), rw p.0) ]

module _ (m r x : ℕ) (hr : r < m) where
  after_place : (q n : ℕ) (v : Sets) → q < m → Ends (v x) (suc n) → (t : ℕ) → suc (places (tail (v x)) n) + q ≡ t * m + r → Left m r x (turn m q) (shift v)
  after_place q n v l e t h = elim (turned m q l) [
    | inl p ↦ rw p.1 (at t h p.0)
    | inr p ↦ rw p.1 (n, t, ends_tail (v x) n e, omega (arith, h))
  ]
    where
      at : (t : ℕ) → suc (places (tail (v x)) n) + q ≡ t * m + r → suc q ≡ m → Left m r x 0 (shift v)
      at zero h g = let z : ⊥ = omega (arith, h) in absurd z
      at (suc t) h g = (n, t, ends_tail (v x) n e, omega (arith, h, suc-mul t m))

  before_place : (q : ℕ) (v : Sets) → q < m → v x 0 ≡ true → Left m r x (turn m q) (shift v) → Left m r x q v
  before_place q v l f h =
      let c : ◌≡◌ {A = ℕ} (cond (v x 0) 1 0) 1 = ap (λ d. cond d 1 0) f in
      let (n, t, e, p) = h in
      elim (turned m q l) [
        | inl g ↦ (let p' : places (tail (v x)) n + 0 ≡ t * m + r = rw g.1 at p in (suc n, suc t, ends_more (v x) n e, omega (arith, suc-mul t m)))
        | inr g ↦ (let p' : places (tail (v x)) n + suc q ≡ t * m + r = rw g.1 at p in (suc n, t, ends_more (v x) n e, omega arith))
      ]

  to : (q : ℕ) (v : Sets) (b : Bool) → q < m → v x 0 ≡ b → Left m r x q v → Left m r x (cond b (turn m q) q) (shift v)
  to q v true l f h =
      let (n, t, e, p) = h in
      let u = places_up (v x) n e in
      let c : ◌≡◌ {A = ℕ} (cond (v x 0) 1 0) 1 = ap (λ d. cond d 1 0) f in
      after_place q n v l (ends_up (v x) n e) t (omega arith)
  to q v false l f h =
      let (n, t, e, p) = h in
      let u = places_up (v x) n e in
      let c : ◌≡◌ {A = ℕ} (cond (v x 0) 1 0) 0 = ap (λ d. cond d 1 0) f in
      (n, t, ends_tail (v x) n (ends_up (v x) n e), omega arith)

  back : (q : ℕ) (v : Sets) (b : Bool) → q < m → v x 0 ≡ b → Left m r x (cond b (turn m q) q) (shift v) → Left m r x q v
  back q v true l f h = before_place q v l f h
  back q v false l f h =
      let (n, t, e, p) = h in
      let c : ◌≡◌ {A = ℕ} (cond (v x 0) 1 0) 0 = ap (λ d. cond d 1 0) f in
      (suc n, t, ends_more (v x) n e, omega arith)

  turn_below : (q : ℕ) → q < m → turn m q < m
  turn_below q h = elim (turned m q h) [ inl g ↦ omega arith | inr g ↦ omega arith ]

  pub stays : (q : ℕ) (b : Bool) → q < m → cond b (turn m q) q < m
  stays q true h = turn_below q h
  stays q false h = h

  -- no place is left: then the places that have been are r
  last : (q n t : ℕ) → q < m → places (λ i. false) n + q ≡ t * m + r → q ≡ r
  last q n zero h e = let y = places_none n in omega arith
  last q n (suc t) h e = let y = places_none n in let z : ⊥ = omega (arith, e, suc-mul t m) in absurd z

  end_says : (q : ℕ) → q < m → (eqb q r ≡ true) ↔ Left m r x q (sets [])
  end_says q h = elim (eqb_tells q r) [
    | inl p ↦ (λ _. (0, 0, λ i f. absurd (false≢true f), omega (arith, p.1)), λ _. p.0)
    | inr p ↦ (λ e. absurd (false≢true (rw p.0 at e)), λ l. absurd (p.1 (last q l.0 l.1 h l.3)))
  ]

module _ (c : Multiple) where
  abbrev m : ℕ
  m = c.remainder.modulus

  abbrev r : ℕ
  r = c.remainder.rest

  left_says : (q : ℕ) (w : Word) → q < m → (eqb (run (counter c).step q w) r ≡ true) ↔ Left m r c.set q (sets w)
  left_says q [] h = end_says m r c.set c.remainder.below q h
  left_says q (a ∷ w) h =
      let b = bit c.set a in
      let i = left_says (cond b (turn m q) q) w (stays m r c.set c.remainder.below q b h) in
      (λ e. back m r c.set c.remainder.below q (sets (a ∷ w)) b h refl (i.0 e), λ l. i.1 (to m r c.set c.remainder.below q (sets (a ∷ w)) b h refl l))

  counts_left : (v : Sets) → Left m r c.set 0 v ↔ Counts c v
  counts_left v = (λ h. (h.0, h.1, h.2, omega (arith, h.3)), λ h. (h.0, h.1, h.2, omega (arith, h.3)))

  counter_says : (w : Word) → (eqb (run (counter c).step 0 w) r ≡ true) ↔ OfAtom (Counted c) w
  counter_says w =
      let s = left_says 0 w (omega (arith, c.remainder.below)) in
      let l = counts_left (sets w) in
      let f = counted c (sets w) in
      (λ e. f.1 (l.0 (s.0 e)), λ h. s.1 (l.1 (f.0 h)))

  pub counter_right : Right (λ q. q) (counter c) (OfAtom (Counted c))
  counter_right = record {
    few = c.remainder.most;
    begins = omega (arith, c.remainder.below);
    stays = λ q a h. stays m r c.set c.remainder.below q (bit c.set a) h;
    says = counter_says;
  }
