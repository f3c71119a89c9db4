-- The bytes of the row claim that is made of a ring claim, from what was put, and no room for them.
use Rattle.std.proofs.Common.{◌≡◌, ℕ, ◌+◌, ◌-◌, ◌<◌, ◌≤◌, ◌&&◌, leb, List, [], ◌∷◌, ◌++◌, length, take, drop, sym, ap, ◌∙◌, subst, append-nil, arith, le→leb, length-append}
use Rattle.std.proofs.lemmas.List.{take_at}
use Rattle.claims.specs.Rows.{row}
use Rattle.claims.proofs.FrontLaws.{pass_both}
use Rattle.rows.specs.RowClaims.{is_row}
use Rattle.row_claims.specs.Meaning.{RowClaim}
use Rattle.row_claims.specs.Meaning as rows
use Rattle.row_claims.specs.Reading.{row_ok, in_row, further}
use Rattle.row_claims.specs.Bytes.{row_bytes, SaysRow}
use Rattle.row_judge.specs.Made.{bytes_of}
use Rattle.row_judge.specs.declared.made.Rows.TheVariants.{Without}
use Rattle.ring_claims.specs.Meaning.{RingClaim}
use Rattle.ring_claims.specs.Reading.{in_ring}
use Rattle.ring_claims.specs.Bytes.{ring_bytes, SaysRing}
use Rattle.ring_claims.proofs.OneRingClaim.{one_front}
use Rattle.ring_claims.proofs.FrontLaws.{opened}
use Rattle.ring_claims.proofs.RingsAsRows.{ring_in}
use Rattle.ring_judge.specs.Put.{Overlong, Puts}
use Rattle.ring_judge.specs.Made.{as_row, Made}

-- the bytes are a ring claim alone, so that is what was put
pub put_alone : (c d : RingClaim) (o o' s t : List ℕ) → ring_bytes c ≡ s → Puts d o o' s t → o' ≡ o ++ row_bytes (in_ring c)
put_alone c d o o' s t e p =
    let i = (one_front d c t [] (p.read ∙ sym (append-nil (ring_bytes c) ∙ e))).0 in
    subst (λ d. o' ≡ o ++ row_bytes (in_ring d)) i p.put

pub long_alone : (n : ℕ) (c : RingClaim) (s : List ℕ) → ring_bytes c ≡ s → Overlong n s → 1024 < n + length (row_bytes (in_ring c))
long_alone n c s e h = h c [] (append-nil (ring_bytes c) ∙ e)

-- what stands behind a ring claim's first byte is the ring claim
pub behind_first : (s : List ℕ) (k : ℕ) (c : RingClaim) → SaysRing s k c → ring_bytes c ≡ take (length s - 1) (drop 1 s)
behind_first s k c f = subst (λ s. ring_bytes c ≡ take (length s - 1) (drop 1 s)) f.bytes (all (length (k ∷ ring_bytes c) - 1) (omega arith))
  where
    all : (l : ℕ) → length (ring_bytes c) ≡ l → ring_bytes c ≡ take l (ring_bytes c)
    all l e = sym (ap (take l) (sym (append-nil (ring_bytes c))) ∙ take_at (ring_bytes c) [] l e)

-- a claim about sets that is made of a row claim is no shorter
in_row_long : (r : ℕ) (c : RowClaim) → length (row_bytes c) ≤ length (row (in_row r c))
in_row_long r (rows.atom a) = omega arith
in_row_long r (rows.last x) = omega arith
in_row_long r (rows.not1 c) = let h = in_row_long r c in omega arith
in_row_long r (rows.and1 c d) = let h = in_row_long r c in let g = in_row_long r d in omega (arith, length-append (row_bytes c) (row_bytes d), length-append (row (in_row r c)) (row (in_row r d)))
in_row_long r (rows.some x c) = let h = in_row_long r c in omega arith

pub longer_still : (k : ℕ) (c : RingClaim) → 1024 < length (as_row k c) → 1024 < length (bytes_of Without k (in_ring c))
longer_still k c h = omega (arith, in_row_long k (in_ring c), length-append (row (is_row k)) (4 ∷ row (further k (in_ring c))))

-- what was made is the row claim
pub made_row : (s : List ℕ) (k : ℕ) (c : RingClaim) (t : List ℕ) → Made s k c t → SaysRow t k (in_ring c)
made_row s k c t m =
    let (o, f) = opened s k c m.says in record {
      bytes = sym m.row;
      fine = pass_both (leb 1 k) (leb k 12 && (leb (length t) 1024 && row_ok k (in_ring c))) (le→leb 1 k o.low)
          (pass_both (leb k 12) (leb (length t) 1024 && row_ok k (in_ring c)) (le→leb k 12 o.high)
          (pass_both (leb (length t) 1024) (row_ok k (in_ring c)) (le→leb (length t) 1024 m.few_bytes) (ring_in k c f.fine)));
    }
