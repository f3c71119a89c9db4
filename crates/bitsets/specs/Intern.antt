-- Rows that are found again by hashing: every row is filed under a bucket, and the rows of a bucket
-- are chained, the last one first.
use Rattle.std.specs.Prelude.{◌≡◌, ℕ, ◌+◌, ◌-◌, ◌*◌, ◌/◌, ◌%◌, ◌^◌, ◌<◌, ◌≤◌, cond, ◌&&◌, List, [], ◌∷◌, length, ◌==◌, ◌≢◌, bit_xor, nat_lt, slice_index}
use Rattle.bitsets.specs.Bitrows.{row_at, member}

-- one word mixed into a hash
unfoldable pub mixed : ℕ → ℕ → ℕ
mixed h x = bit_xor ((h * 2654435761 + x) / 2 ^ 32) ((h * 2654435761 + x) % 2 ^ 32)

-- all words of a row mixed into a hash
abbrev pub hashed : ℕ → List ℕ → ℕ
hashed h [] = h
hashed h (x ∷ row) = hashed (mixed h x) row

-- the bucket of a row, of n buckets
unfoldable pub bucket_of : List ℕ → ℕ → ℕ
bucket_of row n = hashed 1 row % n

-- c is 1 more than the last of the first n rows that is filed under bucket h, or 0 where none is
pub record Last (buckets : List ℕ) (h n c : ℕ) : Type 0 where
  pub low : c ≤ n
  pub filed : 0 < c → slice_index buckets (c - 1) ≡ h
  pub no_later : (j : ℕ) → c ≤ j → j < n → slice_index buckets j ≢ h

-- what bucket h's head says of the first n rows: the head counts only if it is one of them and
-- filed under h, so that heads need no clearing
unfoldable pub first_of : List ℕ → List ℕ → ℕ → ℕ → ℕ
first_of heads buckets n h = cond (nat_lt (slice_index heads h) n && slice_index buckets (slice_index heads h) == h) (slice_index heads h + 1) 0

-- the first n rows are chained
pub record Chains (heads links buckets : List ℕ) (n : ℕ) : Type 0 where
  pub head : (h : ℕ) → h < length heads → Last buckets h n (first_of heads buckets n h)
  pub link : (i : ℕ) → i < n → Last buckets (slice_index buckets i) i (slice_index links i)

-- and each is filed under its own bucket
pub record Interned (sets : List ℕ) (w n : ℕ) (heads links buckets : List ℕ) : Type 0 where
  pub chains : Chains heads links buckets n
  pub filed : (i : ℕ) → i < n → slice_index buckets i ≡ bucket_of (row_at sets w i) (length heads)

-- row n is a set that no row before it is, and it is interned too
pub record Fresh (sets : List ℕ) (w n : ℕ) (heads links buckets : List ℕ) : Type 0 where
  pub differs : (j : ℕ) → j < n → member sets w j ≢ member sets w n
  pub interned : Interned sets w (n + 1) heads links buckets

-- row n is the same as row j before it, and what was interned still is
pub record Again (sets : List ℕ) (w n : ℕ) (heads links buckets : List ℕ) (j : ℕ) : Type 0 where
  pub earlier : j < n
  pub same : row_at sets w j ≡ row_at sets w n
  pub interned : Interned sets w n heads links buckets
