-- A ring claim put as a row claim, sign by sign: its parts put one behind the other, and no room for it where there is none for a part.
use Rattle.std.proofs.Common.{◌≡◌, ℕ, ◌+◌, ◌<◌, List, [], ◌∷◌, ◌++◌, length, take, drop, Some, None, Option, sym, ap, ◌∙◌, refl, subst, append_assoc, arith, length-append, Bor, MatchOption}
use Rattle.std.proofs.lemmas.List.{take_at}
use Rattle.kinds.specs.Atoms.{row_of}
use Rattle.row_claims.specs.Bytes.{row_bytes}
use Rattle.ring_claims.specs.Meaning.{RingClaim, atom, not1, and1, some, atom_of}
use Rattle.ring_claims.specs.Reading.{in_ring}
use Rattle.ring_claims.specs.Bytes.{ring_bytes}
use Rattle.ring_claims.specs.Signs.{head}
use Rattle.ring_claims.specs.declared.atom.RingAtom.{RingAtom}
use Rattle.ring_claims.specs.declared.sign.RingSign.{RingSign}
use Rattle.ring_claims.specs.declared.sign.RingSign.TheVariants as sign
use Rattle.ring_claims.proofs.OneRingClaim.{parts, one_front}
use Rattle.ring_judge.specs.Put.{Overlong, Puts}

-- bytes that begin with no sign begin with no ring claim
no_claim : (s : List ℕ) → ((g : RingSign) (t : List ℕ) → head g ++ t ≡ s → ⊥) → (c : RingClaim) (t : List ℕ) → ring_bytes c ++ t ≡ s → ⊥
no_claim s n (atom a) t f = n (sign.Atom a) t f
no_claim s n (not1 c) t f = n sign.Not (ring_bytes c ++ t) f
no_claim s n (and1 c d) t f = n sign.And ((ring_bytes c ++ ring_bytes d) ++ t) f
no_claim s n (some x c) t f = n (sign.Some x) (ring_bytes c ++ t) f

pub no_sign : (n : ℕ) (s : List ℕ) → ((g : RingSign) (t : List ℕ) → head g ++ t ≡ s → ⊥) → Overlong n s
no_sign n s h c t f = absurd (no_claim s h c t f)

-- bytes that begin with a ring claim for which there is no room begin with no other
pub no_room : (n : ℕ) (c : RingClaim) (s t : List ℕ) → ring_bytes c ++ t ≡ s → 1024 < n + length (row_bytes (in_ring c)) → Overlong n s
no_room n c s t e h d u f = subst (λ d. 1024 < n + length (row_bytes (in_ring d))) (one_front c d t u (e ∙ sym f)).0 h

-- room for a claim is room for its parts
pub no_not : (n : ℕ) (q s : List ℕ) → 4 ∷ q ≡ s → ((c : RingClaim) (t : List ℕ) → ring_bytes c ++ t ≡ q → 1024 < (n + 1) + length (row_bytes (in_ring c))) → Overlong n s
no_not n q s e h c t f =
    let (d, p, g) = parts c t 4 q (f ∙ sym e) in
    subst (λ c. 1024 < n + length (row_bytes (in_ring c))) (sym p) (omega (arith, h d t g))

pub no_and : (n : ℕ) (q s : List ℕ) → 5 ∷ q ≡ s → ((c d : RingClaim) (t : List ℕ) → ring_bytes c ++ (ring_bytes d ++ t) ≡ q → 1024 < (n + 1) + (length (row_bytes (in_ring c)) + length (row_bytes (in_ring d)))) → Overlong n s
no_and n q s e h c t f =
    let (d₁, d₂, p, g) = parts c t 5 q (f ∙ sym e) in
    subst (λ c. 1024 < n + length (row_bytes (in_ring c))) (sym p) (omega (arith, h d₁ d₂ t g, length-append (row_bytes (in_ring d₁)) (row_bytes (in_ring d₂))))

pub no_some : (n x : ℕ) (q s : List ℕ) → 6 ∷ x ∷ q ≡ s → ((c : RingClaim) (t : List ℕ) → ring_bytes c ++ t ≡ q → 1024 < (n + 2) + length (row_bytes (in_ring c))) → Overlong n s
no_some n x q s e h c t f =
    let (y, d, p, g) = parts c t 6 (x ∷ q) (f ∙ sym e) in
    subst (λ c. 1024 < n + length (row_bytes (in_ring c))) (sym p) (omega (arith, h d t (ap (drop 1) g)))

-- a claim without parts that stands first in bytes is taken by its length
pub atom_taken : (a : RingAtom) (r s : List ℕ) (l : ℕ) → row_of (atom_of a) ++ r ≡ s → l ≡ length (row_of (atom_of a)) → take l s ≡ row_of (atom_of a)
atom_taken a r s l e h = ap (take l) (sym e) ∙ take_at (row_of (atom_of a)) r l (sym h)

-- m is o with a sign behind it; then a part is put
module _ (o m o' q s : List ℕ) where
  after : (x y z : List ℕ) → m ≡ o ++ x → o' ≡ m ++ y → x ++ y ≡ z → o' ≡ o ++ z
  after x y z i e f = e ∙ ap (λ m. m ++ y) i ∙ append_assoc o x y ∙ ap (λ z. o ++ z) f

  pub over_not : 4 ∷ q ≡ s → m ≡ o ++ 4 ∷ [] → Overlong (length m) q → Overlong (length o) s
  over_not e i h = no_not (length o) q s e (λ c t f. omega (arith, h c t f, ap length i, length-append o (4 ∷ [])))

  pub put_not : (c : RingClaim) (t : List ℕ) → 4 ∷ q ≡ s → m ≡ o ++ 4 ∷ [] → Puts c m o' q t → Puts (not1 c) o o' s t
  put_not c t e i p = record { read = ap (λ z. 4 ∷ z) p.read ∙ e; put = after (4 ∷ []) (row_bytes (in_ring c)) (row_bytes (in_ring (not1 c))) i p.put refl; few = p.few }

  pub over_some : (x : ℕ) → 6 ∷ x ∷ q ≡ s → m ≡ o ++ 6 ∷ x ∷ [] → Overlong (length m) q → Overlong (length o) s
  over_some x e i h = no_some (length o) x q s e (λ c t f. omega (arith, h c t f, ap length i, length-append o (6 ∷ x ∷ [])))

  pub put_some : (x : ℕ) (c : RingClaim) (t : List ℕ) → 6 ∷ x ∷ q ≡ s → m ≡ o ++ 6 ∷ x ∷ [] → Puts c m o' q t → Puts (some x c) o o' s t
  put_some x c t e i p = record {
    read = ap (λ z. 6 ∷ x ∷ z) p.read ∙ e;
    put = after (6 ∷ x ∷ []) (row_bytes (in_ring c)) (row_bytes (in_ring (some x c))) i p.put refl;
    few = p.few;
  }

  pub over_first : 5 ∷ q ≡ s → m ≡ o ++ 5 ∷ [] → Overlong (length m) q → Overlong (length o) s
  over_first e i h = no_and (length o) q s e (λ c d t f. omega (arith, h c (ring_bytes d ++ t) f, ap length i, length-append o (5 ∷ [])))

-- of two parts, the first is put
module _ (c : RingClaim) (o m n q s u : List ℕ) (e : 5 ∷ q ≡ s) (i : m ≡ o ++ 5 ∷ []) (f : Puts c m n q u) where
  pub over_second : Overlong (length n) u → Overlong (length o) s
  over_second h = no_and (length o) q s e
      (λ c' d t g.
      (let (j, z) = one_front c' c (ring_bytes d ++ t) u (g ∙ sym f.read) in
      let l = h d t z in
      let k = ap length f.put in
      subst (λ c'. 1024 < (length o + 1) + (length (row_bytes (in_ring c')) + length (row_bytes (in_ring d)))) (sym j) (omega (arith, l, k, ap length i, length-append m (row_bytes (in_ring c)), length-append o (5 ∷ [])))))

  pub put_and : (d : RingClaim) (o' t : List ℕ) → Puts d n o' u t → Puts (and1 c d) o o' s t
  put_and d o' t g = record {
    read = ap (λ z. 5 ∷ z) (append_assoc (ring_bytes c) (ring_bytes d) t ∙ ap (λ z. ring_bytes c ++ z) g.read ∙ f.read) ∙ e;
    put =
        let j : n ≡ o ++ (5 ∷ row_bytes (in_ring c)) = f.put ∙ ap (λ m. m ++ row_bytes (in_ring c)) i ∙ append_assoc o (5 ∷ []) (row_bytes (in_ring c)) in
        g.put ∙ ap (λ z. z ++ row_bytes (in_ring d)) j ∙ append_assoc o (5 ∷ row_bytes (in_ring c)) (row_bytes (in_ring d));
    few = g.few;
  }

-- what is said of the last part is said of the whole
pub lift : (o m o' q s : List ℕ) (p : Option (Bor (List ℕ))) → (Overlong (length m) q → Overlong (length o) s) → ((c : RingClaim) (t : List ℕ) → Puts c m o' q t → (d : RingClaim) × Puts d o o' s t) → MatchOption p (Overlong (length m) q) (λ p. (c : RingClaim) × Puts c m o' q p.now) → MatchOption p (Overlong (length o) s) (λ p. (d : RingClaim) × Puts d o o' s p.now)
lift o m o' q s None f g h = f h
lift o m o' q s (Some p) f g h = g h.0 p.now h.1
