use Rattle.std.proofs.Common.{◌≡◌, ◌+◌, ◌<◌, [], ◌∷◌, ◌++◌, length, arith}
use Rattle.kinds.specs.Atoms.{row_of}
use Rattle.ring_claims.specs.Meaning.{atom, not1, and1, some, atom_of}
use Rattle.ring_claims.proofs.SignLaws.{sign_is}
use Rattle.ring_judge.proofs.PutLaws.{no_sign, no_room, no_not, no_and, no_some, over_not, put_not, over_some, put_some, over_first, over_second, put_and, lift}
use Rattle.ring_judge.proofs.put.+put_in_ring.Goals as goal

pub returns-in_err-sign : goal.returns-in_err-sign
returns-in_err-sign t c = rw c.from_residual.ensures (no_sign _ c.args.bytes.now c.in_err-sign.ensures)

pub returns-in_err-put_atom-in-Atom : goal.returns-in_err-put_atom-in-Atom
returns-in_err-put_atom-in-Atom t c =
    let a = c.in-Atom.atom in
    let s = c.args.bytes.now in
    let e : row_of (atom_of a) ++ c.in_ok-sign.rest.now ≡ s = sign_is _ _ _ _ c.in_ok-sign.ensures c.in-Atom.is in
    rw c.from_residual-in_err-put_atom-in-Atom.ensures (no_room _ (atom a) s c.in_ok-sign.rest.now e c.in_err-put_atom-in-Atom.ensures.put)

pub returns-in_ok-put_atom-in-Atom : goal.returns-in_ok-put_atom-in-Atom
returns-in_ok-put_atom-in-Atom t c =
    let a = c.in-Atom.atom in
    let s = c.args.bytes.now in
    let e : row_of (atom_of a) ++ c.in_ok-sign.rest.now ≡ s = sign_is _ _ _ _ c.in_ok-sign.ensures c.in-Atom.is in
    (atom a, record { read = e; put = c.in_ok-put_atom-in-Atom.ensures.put; few = c.in_ok-put_atom-in-Atom.ensures.few })

pub returns-in_err-push-in-Not : goal.returns-in_err-push-in-Not
returns-in_err-push-in-Not t c =
    let e : 4 ∷ c.in_ok-sign.rest.now ≡ c.args.bytes.now = sign_is _ _ _ _ c.in_ok-sign.ensures c.in-Not.is in
    let l : 1024 < length c.args.out.now + 1 = c.in_err-push-in-Not.ensures.put in
    rw c.from_residual-in_err-push-in-Not.ensures (no_not _ _ c.args.bytes.now e (λ d u f. omega arith))

pub returns-in_ok-push-in-Not : goal.returns-in_ok-push-in-Not
returns-in_ok-push-in-Not t c =
    let o = c.args.out.now in
    let m = c.push.new.self in
    let o' = c.put_in_ring.new.out in
    let q = c.in_ok-sign.rest.now in
    let s = c.args.bytes.now in
    let e : 4 ∷ q ≡ s = sign_is _ _ _ _ c.in_ok-sign.ensures c.in-Not.is in
    let i : m ≡ o ++ 4 ∷ [] = c.in_ok-push-in-Not.ensures.put in
    lift o m o' q s _ (over_not o m o' q s e i) (λ d u f. (not1 d, put_not o m o' q s d u e i f)) c.put_in_ring.ensures

pub returns-in_err-push-in-And : goal.returns-in_err-push-in-And
returns-in_err-push-in-And t c =
    let e : 5 ∷ c.in_ok-sign.rest.now ≡ c.args.bytes.now = sign_is _ _ _ _ c.in_ok-sign.ensures c.in-And.is in
    let l : 1024 < length c.args.out.now + 1 = c.in_err-push-in-And.ensures.put in
    rw c.from_residual-in_err-push-in-And.ensures (no_and _ _ c.args.bytes.now e (λ d d' u f. omega arith))

pub returns-in_err-more-in-And : goal.returns-in_err-more-in-And
returns-in_err-more-in-And t c =
    let o = c.args.out.now in
    let m = c.push-in-And.new.self in
    let q = c.in_ok-sign.rest.now in
    let e : 5 ∷ q ≡ c.args.bytes.now = sign_is _ _ _ _ c.in_ok-sign.ensures c.in-And.is in
    let i : m ≡ o ++ 5 ∷ [] = c.in_ok-push-in-And.ensures.put in
    rw c.from_residual-in_err-more-in-And.ensures (over_first o m o q c.args.bytes.now e i c.in_err-more-in-And.ensures)

pub returns-in_ok-more-in-And : goal.returns-in_ok-more-in-And
returns-in_ok-more-in-And t c =
    let o = c.args.out.now in
    let m = c.push-in-And.new.self in
    let n = c.put_in_ring-in-And.new.out in
    let o' = c.put_in_ring-in-And-2.new.out in
    let q = c.in_ok-sign.rest.now in
    let s = c.args.bytes.now in
    let u = c.in_ok-more-in-And.more.now in
    let e : 5 ∷ q ≡ s = sign_is _ _ _ _ c.in_ok-sign.ensures c.in-And.is in
    let i : m ≡ o ++ 5 ∷ [] = c.in_ok-push-in-And.ensures.put in
    let (d, f) = c.in_ok-more-in-And.ensures in
    lift o n o' u s _ (over_second d o m n q s u e i f) (λ d' t g. (and1 d d', put_and d o m n q s u e i f d' o' t g)) c.put_in_ring-in-And-2.ensures

pub returns-in_err-push-in-Some : goal.returns-in_err-push-in-Some
returns-in_err-push-in-Some t c =
    let e : 6 ∷ c.in-Some.x ∷ c.in_ok-sign.rest.now ≡ c.args.bytes.now = sign_is _ _ _ _ c.in_ok-sign.ensures c.in-Some.is in
    let l : 1024 < length c.args.out.now + 2 = c.in_err-push-in-Some.ensures.put in
    rw c.from_residual-in_err-push-in-Some.ensures (no_some _ _ _ c.args.bytes.now e (λ d u f. omega arith))

pub returns-in_ok-push-in-Some : goal.returns-in_ok-push-in-Some
returns-in_ok-push-in-Some t c =
    let o = c.args.out.now in
    let x = c.in-Some.x in
    let m = c.push-in-Some.new.self in
    let o' = c.put_in_ring-in-Some.new.out in
    let q = c.in_ok-sign.rest.now in
    let s = c.args.bytes.now in
    let e : 6 ∷ x ∷ q ≡ s = sign_is _ _ _ _ c.in_ok-sign.ensures c.in-Some.is in
    let i : m ≡ o ++ 6 ∷ x ∷ [] = c.in_ok-push-in-Some.ensures.put in
    lift o m o' q s _ (over_some o m o' q s x e i) (λ d u f. (some x d, put_some o m o' q s x d u e i f)) c.put_in_ring-in-Some.ensures
