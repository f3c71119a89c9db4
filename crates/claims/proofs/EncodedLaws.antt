-- Bytes that were written of a claim say that claim, about so many sets as its numbers need.
use Rattle.std.proofs.Common.{◌≡◌, ℕ, suc, ◌≤◌, ◌&&◌, T, ltb, leb, List, ◌∷◌, length, refl, subst, sym, arith, le→leb, lt→ltb}
use native.Mathlib.Nat.{le-max_left, le-max_right}
use Rattle.kinds.specs.Atoms as atoms
use Rattle.claims.specs.Claims.{C, atom, not1, and1, some}
use Rattle.claims.specs.Rows.{row, ok, Claim}
use Rattle.claims.specs.Trees.{sets_of}
use Rattle.claims.specs.Encoded.{sets_needed, bytes_needed}
use Rattle.claims.proofs.FrontLaws.{pass_both}

pub ok_sets : (c : C) (k : ℕ) → sets_of c ≤ k → T (ok k c)
ok_sets (atom a) k h = le→leb (atoms.sets_of a) k h
ok_sets (not1 c) k h = ok_sets c k h
ok_sets (and1 c d) k h = pass_both (ok k c) (ok k d) (ok_sets c k (omega (arith, le-max_left (sets_of c) (sets_of d)))) (ok_sets d k (omega (arith, le-max_right (sets_of c) (sets_of d))))
ok_sets (some x c) k h = pass_both (ltb x k) (ok k c) (lt→ltb x k (omega (arith, le-max_left (suc x) (sets_of c)))) (ok_sets c k (omega (arith, le-max_right (suc x) (sets_of c))))

pub encoded : (least : ℕ) (c : C) (bytes : List ℕ) → sets_needed least c ≤ 12 → bytes_needed c ≤ 1024 → bytes ≡ sets_needed least c ∷ row c → Claim bytes (sets_needed least c) c
encoded least c bytes few short e =
    let k = sets_needed least c in
    subst (λ s. Claim s k c) (sym e) (record {
      rows = refl;
      fine = pass_both (leb 1 k) (leb k 12 && (leb (length (k ∷ row c)) 1024 && ok k c)) (le→leb 1 k (omega arith))
          (pass_both (leb k 12) (leb (length (k ∷ row c)) 1024 && ok k c) (le→leb k 12 few)
          (pass_both (leb (length (k ∷ row c)) 1024) (ok k c) (le→leb (length (k ∷ row c)) 1024 short) (ok_sets c k (omega arith))));
    })
