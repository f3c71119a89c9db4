-- A row claim put as a claim about sets, sign by sign: its parts put one behind the other, and no room for it where there is none for a part.
use Rattle.std.proofs.Common.{◌≡◌, ℕ, ◌+◌, ◌<◌, List, [], ◌∷◌, ◌++◌, length, take, drop, Some, None, Option, sym, ap, ◌∙◌, refl, subst, append_assoc, arith, length-append, Bor, MatchOption}
use Rattle.std.proofs.lemmas.List.{take_at}
use Rattle.kinds.specs.Atoms.{row_of}
use Rattle.kinds.specs.declared.atom.Atom.{Atom}
use Rattle.claims.specs.Rows.{row}
use Rattle.row_claims.specs.Meaning.{RowClaim, atom, last, not1, and1, some}
use Rattle.row_claims.specs.Reading.{in_row}
use Rattle.row_claims.specs.Bytes.{row_bytes}
use Rattle.row_claims.specs.Signs.{head}
use Rattle.row_claims.specs.declared.sign.RowSign.{RowSign}
use Rattle.row_claims.specs.declared.sign.RowSign.TheVariants as sign
use Rattle.row_claims.proofs.OneRowClaim.{parts, one_front}
use Rattle.row_judge.specs.Put.{Overlong, Puts}

-- bytes that begin with no sign begin with no row claim
no_claim : (s : List ℕ) → ((g : RowSign) (t : List ℕ) → head g ++ t ≡ s → ⊥) → (c : RowClaim) (t : List ℕ) → row_bytes c ++ t ≡ s → ⊥
no_claim s n (atom a) t f = n (sign.Atom a) t f
no_claim s n (last x) t f = n (sign.Last x) t f
no_claim s n (not1 c) t f = n sign.Not (row_bytes c ++ t) f
no_claim s n (and1 c d) t f = n sign.And ((row_bytes c ++ row_bytes d) ++ t) f
no_claim s n (some x c) t f = n (sign.Some x) (row_bytes c ++ t) f

pub no_sign : (r n : ℕ) (s : List ℕ) → ((g : RowSign) (t : List ℕ) → head g ++ t ≡ s → ⊥) → Overlong r n s
no_sign r n s h c t f = absurd (no_claim s h c t f)

-- bytes that begin with a row claim for which there is no room begin with no other
pub no_room : (r n : ℕ) (c : RowClaim) (s t : List ℕ) → row_bytes c ++ t ≡ s → 1024 < n + length (row (in_row r c)) → Overlong r n s
no_room r n c s t e h d u f = subst (λ d. 1024 < n + length (row (in_row r d))) (one_front c d t u (e ∙ sym f)).0 h

-- room for a claim is room for its parts
pub no_not : (r n : ℕ) (q s : List ℕ) → 4 ∷ q ≡ s → ((c : RowClaim) (t : List ℕ) → row_bytes c ++ t ≡ q → 1024 < (n + 1) + length (row (in_row r c))) → Overlong r n s
no_not r n q s e h c t f =
    let (d, p, g) = parts c t 4 q (f ∙ sym e) in
    subst (λ c. 1024 < n + length (row (in_row r c))) (sym p) (omega (arith, h d t g))

pub no_and : (r n : ℕ) (q s : List ℕ) → 5 ∷ q ≡ s → ((c d : RowClaim) (t : List ℕ) → row_bytes c ++ (row_bytes d ++ t) ≡ q → 1024 < (n + 1) + (length (row (in_row r c)) + length (row (in_row r d)))) → Overlong r n s
no_and r n q s e h c t f =
    let (d₁, d₂, p, g) = parts c t 5 q (f ∙ sym e) in
    subst (λ c. 1024 < n + length (row (in_row r c))) (sym p) (omega (arith, h d₁ d₂ t g, length-append (row (in_row r d₁)) (row (in_row r d₂))))

pub no_some : (r n x : ℕ) (q s : List ℕ) → 6 ∷ x ∷ q ≡ s → ((c : RowClaim) (t : List ℕ) → row_bytes c ++ t ≡ q → 1024 < (n + 6) + length (row (in_row r c))) → Overlong r n s
no_some r n x q s e h c t f =
    let (y, d, p, g) = parts c t 6 (x ∷ q) (f ∙ sym e) in
    subst (λ c. 1024 < n + length (row (in_row r c))) (sym p) (omega (arith, h d t (ap (drop 1) g)))

-- a claim without parts that stands first in bytes is taken by its length
pub atom_taken : (a : Atom) (r s : List ℕ) (l : ℕ) → row_of a ++ r ≡ s → l ≡ length (row_of a) → take l s ≡ row_of a
atom_taken a r s l e h = ap (take l) (sym e) ∙ take_at (row_of a) r l (sym h)

-- m is o with a sign behind it; then a part is put
module _ (r : ℕ) (o m o' q s : List ℕ) where
  after : (x y z : List ℕ) → m ≡ o ++ x → o' ≡ m ++ y → x ++ y ≡ z → o' ≡ o ++ z
  after x y z i e f = e ∙ ap (λ m. m ++ y) i ∙ append_assoc o x y ∙ ap (λ z. o ++ z) f

  pub over_not : 4 ∷ q ≡ s → m ≡ o ++ 4 ∷ [] → Overlong r (length m) q → Overlong r (length o) s
  over_not e i h = no_not r (length o) q s e (λ c t f. omega (arith, h c t f, ap length i, length-append o (4 ∷ [])))

  pub put_not : (c : RowClaim) (t : List ℕ) → 4 ∷ q ≡ s → m ≡ o ++ 4 ∷ [] → Puts r c m o' q t → Puts r (not1 c) o o' s t
  put_not c t e i p = record { read = ap (λ z. 4 ∷ z) p.read ∙ e; put = after (4 ∷ []) (row (in_row r c)) (row (in_row r (not1 c))) i p.put refl; few = p.few }

  pub over_some : (x : ℕ) → 6 ∷ x ∷ q ≡ s → m ≡ o ++ 6 ∷ x ∷ 5 ∷ 0 ∷ x ∷ r ∷ [] → Overlong r (length m) q → Overlong r (length o) s
  over_some x e i h = no_some r (length o) x q s e (λ c t f. omega (arith, h c t f, ap length i, length-append o (6 ∷ x ∷ 5 ∷ 0 ∷ x ∷ r ∷ [])))

  pub put_some : (x : ℕ) (c : RowClaim) (t : List ℕ) → 6 ∷ x ∷ q ≡ s → m ≡ o ++ 6 ∷ x ∷ 5 ∷ 0 ∷ x ∷ r ∷ [] → Puts r c m o' q t → Puts r (some x c) o o' s t
  put_some x c t e i p = record {
    read = ap (λ z. 6 ∷ x ∷ z) p.read ∙ e;
    put = after (6 ∷ x ∷ 5 ∷ 0 ∷ x ∷ r ∷ []) (row (in_row r c)) (row (in_row r (some x c))) i p.put refl;
    few = p.few;
  }

  pub over_first : 5 ∷ q ≡ s → m ≡ o ++ 5 ∷ [] → Overlong r (length m) q → Overlong r (length o) s
  over_first e i h = no_and r (length o) q s e (λ c d t f. omega (arith, h c (row_bytes d ++ t) f, ap length i, length-append o (5 ∷ [])))

-- of two parts, the first is put
module _ (r : ℕ) (c : RowClaim) (o m n q s u : List ℕ) (e : 5 ∷ q ≡ s) (i : m ≡ o ++ 5 ∷ []) (f : Puts r c m n q u) where
  pub over_second : Overlong r (length n) u → Overlong r (length o) s
  over_second h = no_and r (length o) q s e
      (λ c' d t g.
      (let (j, z) = one_front c' c (row_bytes d ++ t) u (g ∙ sym f.read) in
      let l = h d t z in
      let k = ap length f.put in
      subst (λ c'. 1024 < (length o + 1) + (length (row (in_row r c')) + length (row (in_row r d)))) (sym j) (omega (arith, l, k, ap length i, length-append m (row (in_row r c)), length-append o (5 ∷ [])))))

  pub put_and : (d : RowClaim) (o' t : List ℕ) → Puts r d n o' u t → Puts r (and1 c d) o o' s t
  put_and d o' t g = record {
    read = ap (λ z. 5 ∷ z) (append_assoc (row_bytes c) (row_bytes d) t ∙ ap (λ z. row_bytes c ++ z) g.read ∙ f.read) ∙ e;
    put =
        let j : n ≡ o ++ (5 ∷ row (in_row r c)) = f.put ∙ ap (λ m. m ++ row (in_row r c)) i ∙ append_assoc o (5 ∷ []) (row (in_row r c)) in
        g.put ∙ ap (λ z. z ++ row (in_row r d)) j ∙ append_assoc o (5 ∷ row (in_row r c)) (row (in_row r d));
    few = g.few;
  }

-- what is said of the last part is said of the whole
pub lift : (r : ℕ) (o m o' q s : List ℕ) (p : Option (Bor (List ℕ))) → (Overlong r (length m) q → Overlong r (length o) s) → ((c : RowClaim) (t : List ℕ) → Puts r c m o' q t → (d : RowClaim) × Puts r d o o' s t) → MatchOption p (Overlong r (length m) q) (λ p. (c : RowClaim) × Puts r c m o' q p.now) → MatchOption p (Overlong r (length o) s) (λ p. (d : RowClaim) × Puts r d o o' s p.now)
lift r o m o' q s None f g h = f h
lift r o m o' q s (Some p) f g h = g h.0 p.now h.1
