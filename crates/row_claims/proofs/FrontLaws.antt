-- Row claims that bytes begin with: a row claim from its parts, and none where a part is missing or a set is not below k.
use Rattle.std.proofs.Common.{Result, Ok, Err, IsErrAnd, MatchResult, ◌≡◌, ℕ, ◌≤◌, ◌&&◌, T, ltb, leb, List, [], ◌∷◌, ◌++◌, length, get_or, sym, refl, ap, ◌∙◌, subst, append_assoc, append-nil, arith, le→leb, leb→le}
use Rattle.claims.proofs.FrontLaws.{pass_both, both_passed}
use Rattle.row_claims.specs.Meaning.{RowClaim, not1, and1, some}
use Rattle.row_claims.specs.Reading.{row_ok}
use Rattle.row_claims.specs.Bytes.{row_bytes, SaysRow, IsRowClaim}
use Rattle.row_claims.specs.Fronts.{RowFront, NoRowFront, Opens}
use Rattle.row_claims.proofs.OneRowClaim.{parts, one_front}

-- the row claim that bytes begin with is not about k sets: then they begin with none that is
pub no_other : (k : ℕ) (d : RowClaim) (r s : List ℕ) → row_bytes d ++ r ≡ s → (T (row_ok k d) → ⊥) → NoRowFront k s
no_other k d r s e n c t f = n (subst (λ c. T (row_ok k c)) (one_front c d t r (f.rows ∙ sym e)).0 f.fine)

pub front_not : (k : ℕ) (c : RowClaim) (r s t : List ℕ) → 4 ∷ r ≡ s → RowFront k c r t → RowFront k (not1 c) s t
front_not k c r s t e f = record { rows = ap (λ z. 4 ∷ z) f.rows ∙ e; fine = f.fine }

pub no_not : (k : ℕ) (r s : List ℕ) → 4 ∷ r ≡ s → NoRowFront k r → NoRowFront k s
no_not k r s e n c t f =
    let (d, p, q) = parts c t 4 r (f.rows ∙ sym e) in
    n d t (record { rows = q; fine = subst (λ c. T (row_ok k c)) p f.fine })

pub front_some : (k x : ℕ) (c : RowClaim) (r s t : List ℕ) → 6 ∷ x ∷ r ≡ s → T (ltb x k) → RowFront k c r t → RowFront k (some x c) s t
front_some k x c r s t e l f = record { rows = ap (λ z. 6 ∷ x ∷ z) f.rows ∙ e; fine = pass_both (ltb x k) (row_ok k c) l f.fine }

some_front : (k x : ℕ) (c : RowClaim) (r s t : List ℕ) → 6 ∷ x ∷ r ≡ s → RowFront k c s t → (d : RowClaim) × T (ltb x k) × RowFront k d r t
some_front k x c r s t e f =
    let (y, d, p, q) = parts c t 6 (x ∷ r) (f.rows ∙ sym e) in
    let i : y ≡ x = cc in
    let j : c ≡ some x d = cc in
    let (l, o) = both_passed (ltb x k) (row_ok k d) (subst (λ c. T (row_ok k c)) j f.fine) in
    (d, l, record { rows = cc; fine = o })

pub no_some : (k x : ℕ) (r s : List ℕ) → 6 ∷ x ∷ r ≡ s → (T (ltb x k) → NoRowFront k r) → NoRowFront k s
no_some k x r s e n c t f = let (d, l, g) = some_front k x c r s t e f in n l d t g

pub front_and : (k : ℕ) (c d : RowClaim) (r s m t : List ℕ) → 5 ∷ r ≡ s → RowFront k c r m → RowFront k d m t → RowFront k (and1 c d) s t
front_and k c d r s m t e f g = record {
  rows = ap (λ z. 5 ∷ z) (append_assoc (row_bytes c) (row_bytes d) t ∙ (ap (λ z. row_bytes c ++ z) g.rows ∙ f.rows)) ∙ e;
  fine = pass_both (row_ok k c) (row_ok k d) f.fine g.fine;
}

and_front : (k : ℕ) (c : RowClaim) (r s t : List ℕ) → 5 ∷ r ≡ s → RowFront k c s t → (d₁ : RowClaim) × (d₂ : RowClaim) × (m : List ℕ) × RowFront k d₁ r m × RowFront k d₂ m t
and_front k c r s t e f =
    let (d₁, d₂, p, q) = parts c t 5 r (f.rows ∙ sym e) in
    let (o₁, o₂) = both_passed (row_ok k d₁) (row_ok k d₂) (subst (λ c. T (row_ok k c)) p f.fine) in
    (d₁, d₂, row_bytes d₂ ++ t, record { rows = q; fine = o₁ }, record { rows = refl; fine = o₂ })

pub no_first : (k : ℕ) (r s : List ℕ) → 5 ∷ r ≡ s → NoRowFront k r → NoRowFront k s
no_first k r s e n c t f = let (d₁, d₂, m, g, h) = and_front k c r s t e f in n d₁ m g

pub no_second : (k : ℕ) (c : RowClaim) (r s m : List ℕ) → 5 ∷ r ≡ s → RowFront k c r m → NoRowFront k m → NoRowFront k s
no_second k c r s m e f n c' t f' =
    let (d₁, d₂, m', g, h) = and_front k c' r s t e f' in
    n d₂ t (subst (λ z. RowFront k d₂ z t) (one_front d₁ c m' m (g.rows ∙ sym f.rows)).1 h)

-- a row claim's bytes open with its number of sets, and it stands behind
pub opened : (s : List ℕ) (k : ℕ) (c : RowClaim) → SaysRow s k c → Opens s k (row_bytes c) × RowFront k c (row_bytes c) []
opened s k c f =
    let (a, g) = both_passed (leb 1 k) (leb k 12 && (leb (length s) 1024 && row_ok k c)) f.fine in
    let (b, h) = both_passed (leb k 12) (leb (length s) 1024 && row_ok k c) g in
    let (d, o) = both_passed (leb (length s) 1024) (row_ok k c) h in (
      record { bytes = f.bytes; low = leb→le 1 k a; high = leb→le k 12 b; size = leb→le (length s) 1024 d },
      record { rows = append-nil (row_bytes c); fine = o },
    )

-- and what opens so and is followed by a row claim alone is one
pub says_row : (s : List ℕ) (k : ℕ) (c : RowClaim) (r t : List ℕ) → Opens s k r → RowFront k c r t → length t ≡ 0 → SaysRow s k c
says_row s k c r t o f e =
    let z : row_bytes c ++ [] ≡ r = subst (λ t. row_bytes c ++ t ≡ r) (empty t e) f.rows in
    record {
      bytes = ap (λ z. k ∷ z) (sym (append-nil (row_bytes c)) ∙ z) ∙ o.bytes;
      fine = pass_both (leb 1 k) (leb k 12 && (leb (length s) 1024 && row_ok k c)) (le→leb 1 k o.low)
          (pass_both (leb k 12) (leb (length s) 1024 && row_ok k c) (le→leb k 12 o.high) (pass_both (leb (length s) 1024) (row_ok k c) (le→leb (length s) 1024 o.size) f.fine));
    }
  where
    empty : (t : List ℕ) → length t ≡ 0 → t ≡ []
    empty [] h = refl
    empty (x ∷ t) h = let z : ⊥ = omega arith in absurd z

-- what stands behind the number of sets is the row claim with nothing behind it
pub front_of : (s : List ℕ) (k : ℕ) (r : List ℕ) → Opens s k r → (p : IsRowClaim s) → RowFront k p.1 r []
front_of s k r o p =
    let e = p.2.bytes in
    let f = o.bytes in
    let i : p.0 ≡ k = cc in
    let j : row_bytes p.1 ≡ r = cc in
    let g = (opened s p.0 p.1 p.2).1 in
    subst (λ k. RowFront k p.1 r []) i (subst (λ r. RowFront p.0 p.1 r []) j g)

-- so none where none stands there, or where bytes are left
pub none_behind : (s : List ℕ) (k : ℕ) (r : List ℕ) → Opens s k r → NoRowFront k r → IsRowClaim s → ⊥
none_behind s k r o n p = n p.1 [] (front_of s k r o p)

pub none_longer : (s : List ℕ) (k : ℕ) (c : RowClaim) (r t : List ℕ) → Opens s k r → RowFront k c r t → (length t ≡ 0 → ⊥) → IsRowClaim s → ⊥
none_longer s k c r t o f n p =
    let g = front_of s k r o p in
    n (ap length (one_front c p.1 t [] (f.rows ∙ sym g.rows)).1)

-- a row claim's first byte is its number of sets
pub first_is : (s : List ℕ) (k : ℕ) (c : RowClaim) → SaysRow s k c → (get_or s 0 0 ≡ k) × (1 ≤ length s)
first_is s k c f = (sym (ap (λ z. get_or z 0 0) f.bytes), omega (arith, ap length f.bytes))

-- an error that is handed on says what it said
pub carry : {A E : Type 0} (P : A → Type 0) {Q : Type 0} (n e : E) (r : Result A E) → IsErrAnd r (λ f. f ≡ e) → (e ≡ n → Q) → MatchResult r P (λ f. f ≡ n → Q)
carry P n e (Ok a) j h = absurd j
carry P n e (Err f) j h = λ q. h (sym j ∙ q)
