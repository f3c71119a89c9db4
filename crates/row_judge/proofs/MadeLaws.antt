-- The bytes of the claims that are made of a row claim, from what was put, and no room for them.
use Rattle.std.proofs.Common.{◌≡◌, ℕ, ◌+◌, ◌<◌, ◌≤◌, List, [], ◌++◌, length, drop, sym, ap, ◌∙◌, subst, append-nil, arith}
use Rattle.claims.specs.Rows.{row}
use Rattle.row_claims.specs.Meaning.{RowClaim}
use Rattle.row_claims.specs.Reading.{further}
use Rattle.row_claims.specs.Bytes.{row_bytes, SaysRow}
use Rattle.row_claims.proofs.OneRowClaim.{one_front}
use Rattle.row_judge.specs.Put.{Overlong, Puts}
use Rattle.row_judge.specs.Made.{Asked, bytes_of}
use Rattle.row_judge.specs.declared.made.Rows.TheVariants.{Without}

-- the bytes are a row claim alone, so that is what was put
pub put_alone : (k : ℕ) (c d : RowClaim) (o o' s t : List ℕ) → row_bytes c ≡ s → Puts k d o o' s t → o' ≡ o ++ row (further k c)
put_alone k c d o o' s t e p =
    let i = (one_front d c t [] (p.read ∙ sym (append-nil (row_bytes c) ∙ e))).0 in
    subst (λ d. o' ≡ o ++ row (further k d)) i p.put

pub long_alone : (k n : ℕ) (c : RowClaim) (s : List ℕ) → row_bytes c ≡ s → Overlong k n s → 1024 < n + length (row (further k c))
long_alone k n c s e h = h c [] (append-nil (row_bytes c) ∙ e)

-- what stands behind a row claim's first byte is the row claim
pub behind_first : (s : List ℕ) (k : ℕ) (c : RowClaim) → SaysRow s k c → row_bytes c ≡ drop 1 s
behind_first s k c f = ap (drop 1) f.bytes

-- a claim that was made is one for the call
pub fits_call : (s : List ℕ) (k : ℕ) (c : RowClaim) → SaysRow s k c → k ≤ 11 → (t : List ℕ) → t ≡ bytes_of Without k c → length t ≤ 1024 → Asked s k c
fits_call s k c f h t e l = record { says = f; few_sets = omega arith; few_bytes = subst (λ t. length t ≤ 1024) e l }
