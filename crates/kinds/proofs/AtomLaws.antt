-- The bytes of claims without parts: bytes begin with at most one of them; its sign is none of the
-- signs of claims with parts; it has two bytes at least.
use Rattle.std.proofs.Common.{◌≡◌, ℕ, ◌<◌, ◌≤◌, List, ◌∷◌, ◌++◌, length, refl, sym, ap, ◌∙◌, subst, eqb, false, arith}
use Rattle.std.proofs.Math.Bridge.{le_prop}
use mathlib.Core.Bool.{false≢true}
use Rattle.std.proofs.lemmas.Bool.{eq-eqb}
use Rattle.kinds.specs.Atoms.{row_of}
use Rattle.kinds.specs.declared.atom.Atom.{Atom}
use Rattle.kinds.specs.declared.atom.Atom.TheVariants.{Related, Counted}
use Rattle.kinds.specs.declared.multiple.Multiple.{Multiple}
use Rattle.kinds.specs.declared.multiple.Remainder.{Remainder}
use Rattle.kinds.specs.declared.relation.Relation.TheVariants.{Within, Single, Next, Before}

-- A remainder is its two numbers, whatever the proofs that they are as they must be.
abbrev made : (m r : ℕ) → 2 ≤ m → m ≤ 16 → r < m → Remainder
made m r l h s = record { modulus = m; rest = r; least = l; most = h; below = s }

same_made : (b : Remainder) (l : 2 ≤ b.modulus) (h : b.modulus ≤ 16) (s : b.rest < b.modulus) → made b.modulus b.rest l h s ≡ b
same_made b l h s =
    ap (λ l. made b.modulus b.rest l h s) (le_prop l b.least) ∙ ap (λ h. made b.modulus b.rest b.least h s) (le_prop h b.most)
    ∙ ap (λ s. made b.modulus b.rest b.least b.most s) (le_prop s b.below)

pub same_remainder : (a b : Remainder) → a.modulus ≡ b.modulus → a.rest ≡ b.rest → a ≡ b
same_remainder a b e f =
    subst (λ m. (l : 2 ≤ m) (h : m ≤ 16) (s : a.rest < m) → made m a.rest l h s ≡ b) (sym e)
    (λ l h s. subst (λ r. (s : r < b.modulus) → made b.modulus r l h s ≡ b) (sym f) (λ s. same_made b l h s) s) a.least a.most a.below

same_multiple : (a b : Multiple) → a.remainder.modulus ≡ b.remainder.modulus → a.remainder.rest ≡ b.remainder.rest → a.set ≡ b.set → a ≡ b
same_multiple a b e f g =
    ap (λ z. record { remainder = z; set = a.set }) (same_remainder a.remainder b.remainder e f) ∙ ap (λ z. record { remainder = b.remainder; set = z }) g

-- rows that begin with different signs are not the same
unlike : {A : Type 0} {a b : ℕ} {x y : List ℕ} → eqb a b ≡ false → a ∷ x ≡ b ∷ y → A
unlike {a = a} {b = b} n e = let h : a ≡ b = cc in absurd (false≢true (sym n ∙ eq-eqb a b h))

-- bytes begin with at most one claim without parts, and leave at most one rest: a clause for each
-- sign; two signs that differ are two first bytes (the clause before the last is one of these, and
-- has the relation taken apart for all of them)
pub one_atom : (a b : Atom) (x y : List ℕ) → row_of a ++ x ≡ row_of b ++ y → (a ≡ b) × (x ≡ y)
one_atom (Related (Within p q)) (Related (Within r s)) x y e = (cc, cc)
one_atom (Related (Single p)) (Related (Single r)) x y e = (cc, cc)
one_atom (Related (Next p q)) (Related (Next r s)) x y e = (cc, cc)
one_atom (Related (Before p q)) (Related (Before r s)) x y e = (cc, cc)
one_atom (Counted c) (Counted d) x y e = (ap Counted (same_multiple c d (cc) (cc) (cc)), cc)
one_atom (Counted c) (Related (Within r s)) x y e = unlike refl e
one_atom _ _ x y e = unlike refl e

-- the sign of a claim with parts
abbrev pub IsOther : ℕ → Type 0
IsOther b = (4 ≤ b) × (b ≤ 6)

pub other_sign : (a : Atom) (x : List ℕ) (b : ℕ) (y : List ℕ) → row_of a ++ x ≡ b ∷ y → IsOther b → ⊥
other_sign (Related (Within p q)) x b y e h = let z : ◌≡◌ {A = ℕ} 0 b = cc in omega (arith, h.0)
other_sign (Related (Single p)) x b y e h = let z : ◌≡◌ {A = ℕ} 1 b = cc in omega (arith, h.0)
other_sign (Related (Next p q)) x b y e h = let z : ◌≡◌ {A = ℕ} 2 b = cc in omega (arith, h.0)
other_sign (Related (Before p q)) x b y e h = let z : ◌≡◌ {A = ℕ} 3 b = cc in omega (arith, h.0)
other_sign (Counted c) x b y e h = let z : ◌≡◌ {A = ℕ} 7 b = cc in omega (arith, h.1)

pub row_long : (a : Atom) → 2 ≤ length (row_of a)
row_long (Related (Within x y)) = omega arith
row_long (Related (Single x)) = omega arith
row_long (Related (Next x y)) = omega arith
row_long (Related (Before x y)) = omega arith
row_long (Counted m) = omega arith
