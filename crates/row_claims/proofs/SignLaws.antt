-- The sign that bytes begin with: none without a sign.
use Rattle.std.proofs.Common.{◌≡◌, ℕ, List, ◌++◌, subst}
use Rattle.row_claims.specs.declared.sign.RowSign.{RowSign}
use Rattle.row_claims.specs.declared.sign.RowSign.TheVariants.{Atom, Last, Not, And, Some}
use Rattle.row_claims.specs.Meaning.{atom, last, not1, and1, some}
use Rattle.row_claims.specs.Bytes.{row_bytes}
use Rattle.row_claims.specs.Signs.{head}
use Rattle.row_claims.specs.Fronts.{NoRowFront}

-- bytes that begin with no sign begin with no row claim
pub no_sign : (k : ℕ) (s : List ℕ) → ((g : RowSign) (t : List ℕ) → head g ++ t ≡ s → ⊥) → NoRowFront k s
no_sign k s n (atom a) t f = n (Atom a) t f.rows
no_sign k s n (last x) t f = n (Last x) t f.rows
no_sign k s n (not1 c) t f = n Not (row_bytes c ++ t) f.rows
no_sign k s n (and1 c d) t f = n And ((row_bytes c ++ row_bytes d) ++ t) f.rows
no_sign k s n (some x c) t f = n (Some x) (row_bytes c ++ t) f.rows

-- the sign that was read, put for what it is
pub sign_is : (g g' : RowSign) (r s : List ℕ) → head g ++ r ≡ s → g ≡ g' → head g' ++ r ≡ s
sign_is g g' r s h e = subst (λ g. head g ++ r ≡ s) e h
