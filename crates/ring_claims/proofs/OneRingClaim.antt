-- Bytes say at most one ring claim: they are those of the row claim with the same signs, and that tells the ring claim.
use Rattle.std.proofs.Common.{◌≡◌, ℕ, zero, suc, ◌&&◌, T, ltb, leb, List, [], length, ◌∷◌, ◌++◌, sym, refl, ap, ap₂, ◌∙◌, subst, append_assoc, append-nil}
use Rattle.kinds.specs.declared.atom.Atom.{Atom}
use Rattle.kinds.specs.declared.atom.Atom.TheVariants.{Related, Counted}
use Rattle.kinds.specs.declared.relation.Relation.TheVariants.{Within, Single, Next, Before}
use Rattle.claims.proofs.FrontLaws.{both_passed, pass_both}
use Rattle.row_claims.specs.Meaning.{RowClaim}
use Rattle.row_claims.specs.Meaning as rows
use Rattle.row_claims.specs.Reading.{row_ok}
use Rattle.row_claims.specs.Bytes.{row_bytes, IsRowClaim}
use Rattle.row_claims.proofs.OneRowClaim as row_laws
use Rattle.ring_claims.specs.Meaning.{RingClaim, atom, not1, and1, some, atom_of}
use Rattle.ring_claims.specs.Reading.{ring_ok}
use Rattle.ring_claims.specs.Bytes.{ring_bytes, IsRingClaim}
use Rattle.ring_claims.specs.declared.atom.RingAtom.{RingAtom}
use Rattle.ring_claims.specs.declared.atom.RingAtom.TheVariants as ring
use Rattle.ring_claims.specs.Laws.{OneRingClaim}

-- the same signs, read as a row claim
same_signs : RingClaim → RowClaim
same_signs (atom a) = rows.atom (atom_of a)
same_signs (not1 c) = rows.not1 (same_signs c)
same_signs (and1 c d) = rows.and1 (same_signs c) (same_signs d)
same_signs (some x c) = rows.some x (same_signs c)

same_bytes : (c : RingClaim) → row_bytes (same_signs c) ≡ ring_bytes c
unfolding same_signs
same_bytes (atom a) = refl
same_bytes (not1 c) = ap (λ s. 4 ∷ s) (same_bytes c)
same_bytes (and1 c d) = let e = same_bytes c in let f = same_bytes d in cc
same_bytes (some x c) = ap (λ s. 6 ∷ x ∷ s) (same_bytes c)

-- bytes that say a ring claim say that row claim
same_ok : (k : ℕ) (c : RingClaim) → T (ring_ok k c) → T (row_ok k (same_signs c))
unfolding same_signs
same_ok k (atom a) t = t
same_ok k (not1 c) t = same_ok k c t
same_ok k (and1 c d) t = let (a, b) = both_passed (ring_ok k c) (ring_ok k d) t in pass_both (row_ok k (same_signs c)) (row_ok k (same_signs d)) (same_ok k c a) (same_ok k d b)
same_ok k (some x c) t = let (a, b) = both_passed (ltb x k) (ring_ok k c) t in pass_both (ltb x k) (row_ok k (same_signs c)) a (same_ok k c b)

pub is_row_claim : (s : List ℕ) → IsRingClaim s → IsRowClaim s
is_row_claim s h =
    let (k, c, f) = h in
    let (a, g) = both_passed (leb 1 k) (leb k 12 && (leb (length s) 1024 && ring_ok k c)) f.fine in
    let (b, i) = both_passed (leb k 12) (leb (length s) 1024 && ring_ok k c) g in
    let (d, o) = both_passed (leb (length s) 1024) (ring_ok k c) i in (
      k,
      same_signs c,
      record {
        bytes = ap (λ z. k ∷ z) (same_bytes c) ∙ f.bytes;
        fine = pass_both (leb 1 k) (leb k 12 && (leb (length s) 1024 && row_ok k (same_signs c))) a
            (pass_both (leb k 12) (leb (length s) 1024 && row_ok k (same_signs c)) b (pass_both (leb (length s) 1024) (row_ok k (same_signs c)) d (same_ok k c o)));
      },
    )

-- a row claim turned back; what is no ring claim, some one
atom_back : Atom → RingAtom
atom_back (Related (Within x y)) = ring.Within x y
atom_back (Related (Single x)) = ring.Single x
atom_back (Related (Next x y)) = ring.Next x y
atom_back (Related (Before x y)) = ring.Single 0
atom_back (Counted m) = ring.Multiple m

atom_again : (a : RingAtom) → atom_back (atom_of a) ≡ a
unfolding atom_back
atom_again (ring.Within x y) = refl
atom_again (ring.Single x) = refl
atom_again (ring.Next x y) = refl
atom_again (ring.Multiple m) = refl

back : RowClaim → RingClaim
back (rows.atom a) = atom (atom_back a)
back (rows.last x) = atom (ring.Single 0)
back (rows.not1 c) = not1 (back c)
back (rows.and1 c d) = and1 (back c) (back d)
back (rows.some x c) = some x (back c)

back_again : (c : RingClaim) → back (same_signs c) ≡ c
unfolding back same_signs
back_again (atom a) = ap atom (atom_again a)
back_again (not1 c) = ap not1 (back_again c)
back_again (and1 c d) = ap₂ and1 (back_again c) (back_again d)
back_again (some x c) = ap (some x) (back_again c)

-- what stands first in bytes is at most one ring claim, and leaves at most one rest
pub one_front : (c d : RingClaim) (x y : List ℕ) → ring_bytes c ++ x ≡ ring_bytes d ++ y → (c ≡ d) × (x ≡ y)
one_front c d x y h =
    let e = same_bytes c in
    let f = same_bytes d in
    let g : row_bytes (same_signs c) ++ x ≡ row_bytes (same_signs d) ++ y = cc in
    let (i, j) = row_laws.one_front (same_signs c) (same_signs d) x y g in
    (sym (back_again c) ∙ (ap back i ∙ back_again d), j)

-- what a ring claim c with t behind it is, if its bytes are sign b, that of a claim with parts, and then r
abbrev pub Parts : ℕ → List ℕ → RingClaim → List ℕ → Type 0
Parts (suc (suc (suc (suc zero)))) r c t = (d : RingClaim) × (c ≡ not1 d) × (ring_bytes d ++ t ≡ r)
Parts (suc (suc (suc (suc (suc zero))))) r c t = (d : RingClaim) × (e : RingClaim) × (c ≡ and1 d e) × (ring_bytes d ++ (ring_bytes e ++ t) ≡ r)
Parts (suc (suc (suc (suc (suc (suc zero)))))) r c t = (x : ℕ) × (d : RingClaim) × (c ≡ some x d) × (x ∷ (ring_bytes d ++ t) ≡ r)
Parts b r c t = Unit {0}

pub parts : (c : RingClaim) (t : List ℕ) (b : ℕ) (r : List ℕ) → ring_bytes c ++ t ≡ b ∷ r → Parts b r c t
parts (atom (ring.Within x y)) t b r h = let e : 0 ≡ b = cc in subst (λ b. Parts b r (atom (ring.Within x y)) t) e tt
parts (atom (ring.Single x)) t b r h = let e : 1 ≡ b = cc in subst (λ b. Parts b r (atom (ring.Single x)) t) e tt
parts (atom (ring.Next x y)) t b r h = let e : 2 ≡ b = cc in subst (λ b. Parts b r (atom (ring.Next x y)) t) e tt
parts (atom (ring.Multiple m)) t b r h = let e : 7 ≡ b = cc in subst (λ b. Parts b r (atom (ring.Multiple m)) t) e tt
parts (not1 c) t b r h = let e : 4 ≡ b = cc in subst (λ b. Parts b r (not1 c) t) e (c, refl, cc)
parts (and1 c d) t b r h = let e : 5 ≡ b = cc in subst (λ b. Parts b r (and1 c d) t) e (c, d, refl, cc (append_assoc (ring_bytes c) (ring_bytes d) t))
parts (some x c) t b r h = let e : 6 ≡ b = cc in subst (λ b. Parts b r (some x c) t) e (x, c, refl, cc)

pub one_ring_claim : OneRingClaim
one_ring_claim s k l c d p q =
    let a = append-nil (ring_bytes c) in
    let b = append-nil (ring_bytes d) in
    let i = p.bytes in
    let j = q.bytes in
    (cc, (one_front c d [] [] (cc)).0)
