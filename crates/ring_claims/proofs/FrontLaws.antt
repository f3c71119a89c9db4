-- Ring claims that bytes begin with: a ring claim from its parts, and none where a part is missing or a set is not below k.
use Rattle.std.proofs.Common.{Result, Ok, Err, IsErrAnd, MatchResult, ◌≡◌, ℕ, ◌≤◌, ◌&&◌, T, ltb, leb, List, [], ◌∷◌, ◌++◌, length, get_or, sym, refl, ap, ◌∙◌, subst, append_assoc, append-nil, arith, le→leb, leb→le}
use Rattle.claims.proofs.FrontLaws.{pass_both, both_passed}
use Rattle.ring_claims.specs.Meaning.{RingClaim, not1, and1, some}
use Rattle.ring_claims.specs.Reading.{ring_ok}
use Rattle.ring_claims.specs.Bytes.{ring_bytes, SaysRing, IsRingClaim}
use Rattle.row_claims.specs.Fronts.{Opens}
use Rattle.ring_claims.specs.Fronts.{RingFront, NoRingFront}
use Rattle.ring_claims.proofs.OneRingClaim.{parts, one_front}

-- the ring claim that bytes begin with is not about k sets: then they begin with none that is
pub no_other : (k : ℕ) (d : RingClaim) (r s : List ℕ) → ring_bytes d ++ r ≡ s → (T (ring_ok k d) → ⊥) → NoRingFront k s
no_other k d r s e n c t f = n (subst (λ c. T (ring_ok k c)) (one_front c d t r (f.bytes ∙ sym e)).0 f.fine)

pub front_not : (k : ℕ) (c : RingClaim) (r s t : List ℕ) → 4 ∷ r ≡ s → RingFront k c r t → RingFront k (not1 c) s t
front_not k c r s t e f = record { bytes = ap (λ z. 4 ∷ z) f.bytes ∙ e; fine = f.fine }

pub no_not : (k : ℕ) (r s : List ℕ) → 4 ∷ r ≡ s → NoRingFront k r → NoRingFront k s
no_not k r s e n c t f =
    let (d, p, q) = parts c t 4 r (f.bytes ∙ sym e) in
    n d t (record { bytes = q; fine = subst (λ c. T (ring_ok k c)) p f.fine })

pub front_some : (k x : ℕ) (c : RingClaim) (r s t : List ℕ) → 6 ∷ x ∷ r ≡ s → T (ltb x k) → RingFront k c r t → RingFront k (some x c) s t
front_some k x c r s t e l f = record { bytes = ap (λ z. 6 ∷ x ∷ z) f.bytes ∙ e; fine = pass_both (ltb x k) (ring_ok k c) l f.fine }

some_front : (k x : ℕ) (c : RingClaim) (r s t : List ℕ) → 6 ∷ x ∷ r ≡ s → RingFront k c s t → (d : RingClaim) × T (ltb x k) × RingFront k d r t
some_front k x c r s t e f =
    let (y, d, p, q) = parts c t 6 (x ∷ r) (f.bytes ∙ sym e) in
    let i : y ≡ x = cc in
    let j : c ≡ some x d = cc in
    let (l, o) = both_passed (ltb x k) (ring_ok k d) (subst (λ c. T (ring_ok k c)) j f.fine) in
    (d, l, record { bytes = cc; fine = o })

pub no_some : (k x : ℕ) (r s : List ℕ) → 6 ∷ x ∷ r ≡ s → (T (ltb x k) → NoRingFront k r) → NoRingFront k s
no_some k x r s e n c t f = let (d, l, g) = some_front k x c r s t e f in n l d t g

pub front_and : (k : ℕ) (c d : RingClaim) (r s m t : List ℕ) → 5 ∷ r ≡ s → RingFront k c r m → RingFront k d m t → RingFront k (and1 c d) s t
front_and k c d r s m t e f g = record {
  bytes = ap (λ z. 5 ∷ z) (append_assoc (ring_bytes c) (ring_bytes d) t ∙ (ap (λ z. ring_bytes c ++ z) g.bytes ∙ f.bytes)) ∙ e;
  fine = pass_both (ring_ok k c) (ring_ok k d) f.fine g.fine;
}

and_front : (k : ℕ) (c : RingClaim) (r s t : List ℕ) → 5 ∷ r ≡ s → RingFront k c s t → (d₁ : RingClaim) × (d₂ : RingClaim) × (m : List ℕ) × RingFront k d₁ r m × RingFront k d₂ m t
and_front k c r s t e f =
    let (d₁, d₂, p, q) = parts c t 5 r (f.bytes ∙ sym e) in
    let (o₁, o₂) = both_passed (ring_ok k d₁) (ring_ok k d₂) (subst (λ c. T (ring_ok k c)) p f.fine) in
    (d₁, d₂, ring_bytes d₂ ++ t, record { bytes = q; fine = o₁ }, record { bytes = refl; fine = o₂ })

pub no_first : (k : ℕ) (r s : List ℕ) → 5 ∷ r ≡ s → NoRingFront k r → NoRingFront k s
no_first k r s e n c t f = let (d₁, d₂, m, g, h) = and_front k c r s t e f in n d₁ m g

pub no_second : (k : ℕ) (c : RingClaim) (r s m : List ℕ) → 5 ∷ r ≡ s → RingFront k c r m → NoRingFront k m → NoRingFront k s
no_second k c r s m e f n c' t f' =
    let (d₁, d₂, m', g, h) = and_front k c' r s t e f' in
    n d₂ t (subst (λ z. RingFront k d₂ z t) (one_front d₁ c m' m (g.bytes ∙ sym f.bytes)).1 h)

-- a ring claim's bytes open with its number of sets, and it stands behind
pub opened : (s : List ℕ) (k : ℕ) (c : RingClaim) → SaysRing s k c → Opens s k (ring_bytes c) × RingFront k c (ring_bytes c) []
opened s k c f =
    let (a, g) = both_passed (leb 1 k) (leb k 12 && (leb (length s) 1024 && ring_ok k c)) f.fine in
    let (b, h) = both_passed (leb k 12) (leb (length s) 1024 && ring_ok k c) g in
    let (d, o) = both_passed (leb (length s) 1024) (ring_ok k c) h in (
      record { bytes = f.bytes; low = leb→le 1 k a; high = leb→le k 12 b; size = leb→le (length s) 1024 d },
      record { bytes = append-nil (ring_bytes c); fine = o },
    )

-- and what opens so and is followed by a ring claim alone is one
pub says_ring : (s : List ℕ) (k : ℕ) (c : RingClaim) (r t : List ℕ) → Opens s k r → RingFront k c r t → length t ≡ 0 → SaysRing s k c
says_ring s k c r t o f e =
    let z : ring_bytes c ++ [] ≡ r = subst (λ t. ring_bytes c ++ t ≡ r) (empty t e) f.bytes in
    record {
      bytes = ap (λ z. k ∷ z) (sym (append-nil (ring_bytes c)) ∙ z) ∙ o.bytes;
      fine = pass_both (leb 1 k) (leb k 12 && (leb (length s) 1024 && ring_ok k c)) (le→leb 1 k o.low)
          (pass_both (leb k 12) (leb (length s) 1024 && ring_ok k c) (le→leb k 12 o.high) (pass_both (leb (length s) 1024) (ring_ok k c) (le→leb (length s) 1024 o.size) f.fine));
    }
  where
    empty : (t : List ℕ) → length t ≡ 0 → t ≡ []
    empty [] h = refl
    empty (x ∷ t) h = let z : ⊥ = omega arith in absurd z

-- what stands behind the number of sets is the ring claim with nothing behind it
pub front_of : (s : List ℕ) (k : ℕ) (r : List ℕ) → Opens s k r → (p : IsRingClaim s) → RingFront k p.1 r []
front_of s k r o p =
    let e = p.2.bytes in
    let f = o.bytes in
    let i : p.0 ≡ k = cc in
    let j : ring_bytes p.1 ≡ r = cc in
    let g = (opened s p.0 p.1 p.2).1 in
    subst (λ k. RingFront k p.1 r []) i (subst (λ r. RingFront p.0 p.1 r []) j g)

-- so none where none stands there, or where bytes are left
pub none_behind : (s : List ℕ) (k : ℕ) (r : List ℕ) → Opens s k r → NoRingFront k r → IsRingClaim s → ⊥
none_behind s k r o n p = n p.1 [] (front_of s k r o p)

pub none_longer : (s : List ℕ) (k : ℕ) (c : RingClaim) (r t : List ℕ) → Opens s k r → RingFront k c r t → (length t ≡ 0 → ⊥) → IsRingClaim s → ⊥
none_longer s k c r t o f n p =
    let g = front_of s k r o p in
    n (ap length (one_front c p.1 t [] (f.bytes ∙ sym g.bytes)).1)

-- a ring claim's first byte is its number of sets
pub first_is : (s : List ℕ) (k : ℕ) (c : RingClaim) → SaysRing s k c → (get_or s 0 0 ≡ k) × (1 ≤ length s)
first_is s k c f = (sym (ap (λ z. get_or z 0 0) f.bytes), omega (arith, ap length f.bytes))

-- an error that is handed on says what it said
pub carry : {A E : Type 0} (P : A → Type 0) {Q : Type 0} (n e : E) (r : Result A E) → IsErrAnd r (λ f. f ≡ e) → (e ≡ n → Q) → MatchResult r P (λ f. f ≡ n → Q)
carry P n e (Ok a) j h = absurd j
carry P n e (Err f) j h = λ q. h (sym j ∙ q)
