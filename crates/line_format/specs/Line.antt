-- What stands on a line: fields with a space between them, numbers by decimal digits, bytes by hex digits.
use Rattle.std.specs.Prelude.{◌≡◌, ℕ, ◌+◌, ◌-◌, ◌*◌, ◌<◌, ◌≤◌, ◌⊎◌, List, [], ◌∷◌, ◌++◌, length, ◌≢◌}

-- no byte of s is a space
abbrev pub NoSpace : List ℕ → Type 0
NoSpace [] = Unit {0}
NoSpace (d ∷ s) = (d ≢ 32) × NoSpace s

-- a line of two fields, the second not empty, and a line of three
pub record Two (line most bytes : List ℕ) : Type 0 where
  pub first : NoSpace most
  pub second : NoSpace bytes
  pub some : 0 < length bytes
  pub whole : most ++ (32 ∷ bytes) ≡ line

pub record Three (line most bytes out : List ℕ) : Type 0 where
  pub first : NoSpace most
  pub second : NoSpace bytes
  pub some : 0 < length bytes
  pub third : NoSpace out
  pub whole : most ++ (32 ∷ (bytes ++ (32 ∷ out))) ≡ line

-- decimal digits, read on from n, write m
abbrev pub Decimal : ℕ → List ℕ → ℕ → Type 0
Decimal n [] m = n ≡ m
Decimal n (d ∷ s) m = (48 ≤ d) × (d ≤ 57) × Decimal (n * 10 + (d - 48)) s m

-- at least one digit, and all of them write m
abbrev pub Number : List ℕ → ℕ → Type 0
Number s m = (0 < length s) × Decimal 0 s m

-- b is the ASCII code of a hex digit whose value is v
pub data Digit (b v : ℕ) : Type 0 where
  ten : v < 10 → b ≡ 48 + v → Digit b v
  small : 10 ≤ v → v < 16 → b ≡ 87 + v → Digit b v
  large : 10 ≤ v → v < 16 → b ≡ 55 + v → Digit b v

-- the digits a and b write v
pub data Pair (a b v : ℕ) : Type 0 where
  pair : (h l : ℕ) → Digit a h → Digit b l → v ≡ h * 16 + l → Pair a b v

-- pairs of digits write bytes
abbrev pub Pairs : List ℕ → List ℕ → Type 0
Pairs [] t = t ≡ []
Pairs (a ∷ []) t = ⊥
Pairs (a ∷ (b ∷ s)) t = (v : ℕ) × (t' : List ℕ) × Pair a b v × Pairs s t' × (t ≡ v ∷ t')

-- and the byte - alone writes none
abbrev pub Field : List ℕ → List ℕ → Type 0
Field s t = ((s ≡ 45 ∷ []) × (t ≡ [])) ⊎ Pairs s t
