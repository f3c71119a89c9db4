-- A row claim read as a claim about finite sets, with a further set for the row.
use Rattle.std.specs.Prelude.{ℕ, zero, suc, Bool, cond, ◌&&◌, nat_lt, nat_le, ◌==◌, max}
use Rattle.kinds.specs.Atoms.{sets_of}
use Rattle.claims.specs.Claims as claims
use Rattle.rows.specs.RowClaims.{is_row}
use Rattle.row_claims.specs.Meaning.{RowClaim, atom, last, not1, and1, some}

-- every set's number is below k
abbrev pub row_ok : ℕ → RowClaim → Bool
row_ok k (atom a) = nat_le (sets_of a) k
row_ok k (last x) = nat_lt x k
row_ok k (not1 c) = row_ok k c
row_ok k (and1 c d) = row_ok k c && row_ok k d
row_ok k (some x c) = nat_lt x k && row_ok k c

-- a set's number that is neither x nor r, where r is not 0
abbrev pub besides : ℕ → ℕ → ℕ
besides zero r = cond (r == 1) 2 1
besides (suc x) r = 0

-- the row r has a place, tried as set y
abbrev pub has_place : ℕ → ℕ → claims.C
has_place r y = claims.some y (claims.and1 (claims.single y) (claims.within y r))

-- the place y next to that of x is none of the row r
abbrev pub at_end : ℕ → ℕ → ℕ → claims.C
at_end r x y = claims.some y (claims.and1 (claims.next x y) (claims.not1 (claims.within y r)))

-- set x is within the row; and if the row has a place, then x has a place at its end
abbrev pub last_of : ℕ → ℕ → ℕ → claims.C
last_of r x y = claims.and1 (claims.within x r) (claims.not1 (claims.and1 (has_place r y) (claims.not1 (at_end r x y))))

-- the claim, where set r is the row
abbrev pub in_row : ℕ → RowClaim → claims.C
in_row r (atom a) = claims.atom a
in_row r (last x) = last_of r x (besides x r)
in_row r (not1 c) = claims.not1 (in_row r c)
in_row r (and1 c d) = claims.and1 (in_row r c) (in_row r d)
in_row r (some x c) = claims.some x (claims.and1 (claims.within x r) (in_row r c))

-- a row claim about k sets: the sets keep their numbers, and set k is the row
abbrev pub further : ℕ → RowClaim → claims.C
further k c = in_row k c

-- about so many sets: one more, and of a row claim about one set another for a place
abbrev pub further_sets : ℕ → ℕ
further_sets k = max 3 (suc k)

-- the words that are rows of which it holds, and those that are rows of which it does not
abbrev pub row_with : ℕ → RowClaim → claims.C
row_with k c = claims.and1 (is_row k) (further k c)

abbrev pub row_without : ℕ → RowClaim → claims.C
row_without k c = claims.and1 (is_row k) (claims.not1 (further k c))
