-- Bytes that were written of a ring claim say that ring claim, about so many sets as its numbers need.
use Rattle.std.proofs.Common.{◌≡◌, ℕ, suc, ◌≤◌, ◌&&◌, T, ltb, leb, List, ◌∷◌, length, refl, subst, sym, arith, le→leb, lt→ltb}
use native.Mathlib.Nat.{le-max_left, le-max_right}
use Rattle.kinds.specs.Atoms as atoms
use Rattle.claims.proofs.FrontLaws.{pass_both}
use Rattle.ring_claims.specs.Meaning.{RingClaim, atom, not1, and1, some, atom_of}
use Rattle.ring_claims.specs.Reading.{ring_ok}
use Rattle.ring_claims.specs.Bytes.{ring_bytes, SaysRing}
use Rattle.ring_claims.specs.Trees.{sets_of}
use Rattle.ring_claims.specs.Encoded.{sets_needed, bytes_needed}

pub ok_sets : (c : RingClaim) (k : ℕ) → sets_of c ≤ k → T (ring_ok k c)
ok_sets (atom a) k h = le→leb (atoms.sets_of (atom_of a)) k h
ok_sets (not1 c) k h = ok_sets c k h
ok_sets (and1 c d) k h = pass_both (ring_ok k c) (ring_ok k d) (ok_sets c k (omega (arith, le-max_left (sets_of c) (sets_of d)))) (ok_sets d k (omega (arith, le-max_right (sets_of c) (sets_of d))))
ok_sets (some x c) k h = pass_both (ltb x k) (ring_ok k c) (lt→ltb x k (omega (arith, le-max_left (suc x) (sets_of c)))) (ok_sets c k (omega (arith, le-max_right (suc x) (sets_of c))))

pub encoded : (least : ℕ) (c : RingClaim) (bytes : List ℕ) → sets_needed least c ≤ 12 → bytes_needed c ≤ 1024 → bytes ≡ sets_needed least c ∷ ring_bytes c → SaysRing bytes (sets_needed least c) c
encoded least c bytes few short e =
    let k = sets_needed least c in
    subst (λ s. SaysRing s k c) (sym e) (record {
      bytes = refl;
      fine = pass_both (leb 1 k) (leb k 12 && (leb (length (k ∷ ring_bytes c)) 1024 && ring_ok k c)) (le→leb 1 k (omega arith))
          (pass_both (leb k 12) (leb (length (k ∷ ring_bytes c)) 1024 && ring_ok k c) (le→leb k 12 few)
          (pass_both (leb (length (k ∷ ring_bytes c)) 1024) (ring_ok k c) (le→leb (length (k ∷ ring_bytes c)) 1024 short) (ok_sets c k (omega arith))));
    })
