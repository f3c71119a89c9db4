-- The sign that bytes begin with: at most one of row claims, so no ring claim's where it is none of theirs.
use Rattle.std.proofs.Common.{◌≡◌, ℕ, List, ◌∷◌, ◌++◌, ap, sym, refl, ◌∙◌, subst, arith}
use Rattle.kinds.proofs.AtomLaws.{one_atom, other_sign}
use Rattle.row_claims.specs.Signs as rows
use Rattle.row_claims.specs.declared.sign.RowSign.{RowSign}
use Rattle.row_claims.specs.declared.sign.RowSign.TheVariants as row
use Rattle.row_claims.proofs.OneRowClaim.{not_last}
use Rattle.ring_claims.specs.declared.sign.RingSign.{RingSign}
use Rattle.ring_claims.specs.declared.sign.RingSign.TheVariants.{Atom, Not, And, Some}
use Rattle.ring_claims.specs.Meaning.{atom, not1, and1, some}
use Rattle.ring_claims.specs.Bytes.{ring_bytes}
use Rattle.ring_claims.specs.Signs.{row_sign, head}
use Rattle.ring_claims.specs.Fronts.{NoRingFront}

-- two signs of row claims that differ are two first bytes
apart : {A : Type 0} (a b : ℕ) (x y : List ℕ) → (a ≡ b → ⊥) → a ∷ x ≡ b ∷ y → A
apart a b x y n e = let h : a ≡ b = cc in absurd (n h)

one_sign : (g h : RowSign) (x y : List ℕ) → rows.head g ++ x ≡ rows.head h ++ y → g ≡ h
one_sign (row.Atom a) (row.Atom b) x y e = ap row.Atom (one_atom a b x y e).0
one_sign (row.Atom a) (row.Last z) x y e = absurd (not_last a x (z ∷ y) e)
one_sign (row.Atom a) row.Not x y e = absurd (other_sign a x 4 y e (omega arith, omega arith))
one_sign (row.Atom a) row.And x y e = absurd (other_sign a x 5 y e (omega arith, omega arith))
one_sign (row.Atom a) (row.Some z) x y e = absurd (other_sign a x 6 (z ∷ y) e (omega arith, omega arith))
one_sign (row.Last z) (row.Atom b) x y e = absurd (not_last b y (z ∷ x) (sym e))
one_sign row.Not (row.Atom b) x y e = absurd (other_sign b y 4 x (sym e) (omega arith, omega arith))
one_sign row.And (row.Atom b) x y e = absurd (other_sign b y 5 x (sym e) (omega arith, omega arith))
one_sign (row.Some z) (row.Atom b) x y e = absurd (other_sign b y 6 (z ∷ x) (sym e) (omega arith, omega arith))
one_sign (row.Last z) (row.Last w) x y e = cc
one_sign row.Not row.Not x y e = refl
one_sign row.And row.And x y e = refl
one_sign (row.Some z) (row.Some w) x y e = cc
one_sign (row.Last z) row.Not x y e = apart 8 4 (z ∷ x) y (λ h. omega arith) e
one_sign (row.Last z) row.And x y e = apart 8 5 (z ∷ x) y (λ h. omega arith) e
one_sign (row.Last z) (row.Some w) x y e = apart 8 6 (z ∷ x) (w ∷ y) (λ h. omega arith) e
one_sign row.Not (row.Last w) x y e = apart 4 8 x (w ∷ y) (λ h. omega arith) e
one_sign row.Not row.And x y e = apart 4 5 x y (λ h. omega arith) e
one_sign row.Not (row.Some w) x y e = apart 4 6 x (w ∷ y) (λ h. omega arith) e
one_sign row.And (row.Last w) x y e = apart 5 8 x (w ∷ y) (λ h. omega arith) e
one_sign row.And row.Not x y e = apart 5 4 x y (λ h. omega arith) e
one_sign row.And (row.Some w) x y e = apart 5 6 x (w ∷ y) (λ h. omega arith) e
one_sign (row.Some z) (row.Last w) x y e = apart 6 8 (z ∷ x) (w ∷ y) (λ h. omega arith) e
one_sign (row.Some z) row.Not x y e = apart 6 4 (z ∷ x) y (λ h. omega arith) e
one_sign (row.Some z) row.And x y e = apart 6 5 (z ∷ x) y (λ h. omega arith) e

-- bytes that begin with a sign of row claims that is none of a ring claim begin with no ring claim's
pub none_of_ring : (h : RowSign) (r s : List ℕ) → rows.head h ++ r ≡ s → ((g : RingSign) → row_sign g ≡ h → ⊥) → (g : RingSign) (t : List ℕ) → head g ++ t ≡ s → ⊥
none_of_ring h r s e n g t f = n g (one_sign (row_sign g) h t r (f ∙ sym e))

-- bytes that begin with no sign begin with no ring claim
pub no_sign : (k : ℕ) (s : List ℕ) → ((g : RingSign) (t : List ℕ) → head g ++ t ≡ s → ⊥) → NoRingFront k s
no_sign k s n (atom a) t f = n (Atom a) t f.bytes
no_sign k s n (not1 c) t f = n Not (ring_bytes c ++ t) f.bytes
no_sign k s n (and1 c d) t f = n And ((ring_bytes c ++ ring_bytes d) ++ t) f.bytes
no_sign k s n (some x c) t f = n (Some x) (ring_bytes c ++ t) f.bytes

-- the sign that was read, put for what it is
pub sign_is : (g g' : RingSign) (r s : List ℕ) → head g ++ r ≡ s → g ≡ g' → head g' ++ r ≡ s
sign_is g g' r s h e = subst (λ g. head g ++ r ≡ s) e h
