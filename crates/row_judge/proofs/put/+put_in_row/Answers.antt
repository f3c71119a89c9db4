use Rattle.std.proofs.Common.{◌≡◌, ◌+◌, ◌<◌, [], ◌∷◌, ◌++◌, length, ap, ◌∙◌, subst, arith}
use Rattle.kinds.specs.Atoms.{row_of}
use Rattle.row_claims.specs.Meaning.{atom, last, not1, and1, some}
use Rattle.row_claims.proofs.SignLaws.{sign_is}
use Rattle.row_judge.proofs.PutLaws.{no_sign, no_room, no_not, no_and, no_some, atom_taken, over_not, put_not, over_some, put_some, over_first, over_second, put_and, lift}
use Rattle.row_judge.proofs.put.+put_in_row.Goals as goal

pub returns-in_err-sign : goal.returns-in_err-sign
returns-in_err-sign t c = rw c.from_residual.ensures (no_sign c.args.of_row _ c.args.bytes.now c.in_err-sign.ensures)

pub returns-in_err-push-in-Atom : goal.returns-in_err-push-in-Atom
returns-in_err-push-in-Atom t c =
    let a = c.in-Atom.atom in
    let s = c.args.bytes.now in
    let e : row_of a ++ c.in_ok-sign.rest.now ≡ s = sign_is _ _ _ _ c.in_ok-sign.ensures c.in-Atom.is in
    let p = atom_taken a c.in_ok-sign.rest.now s c.length.result e c.length.ensures in
    rw c.from_residual-in_err-push-in-Atom.ensures
    (no_room c.args.of_row _ (atom a) s c.in_ok-sign.rest.now e (subst (λ z. 1024 < length c.args.out.now + length z) p c.in_err-push-in-Atom.ensures.put))

pub returns-in_ok-push-in-Atom : goal.returns-in_ok-push-in-Atom
returns-in_ok-push-in-Atom t c =
    let a = c.in-Atom.atom in
    let s = c.args.bytes.now in
    let e : row_of a ++ c.in_ok-sign.rest.now ≡ s = sign_is _ _ _ _ c.in_ok-sign.ensures c.in-Atom.is in
    let p = atom_taken a c.in_ok-sign.rest.now s c.length.result e c.length.ensures in
    (atom a, record { read = e; put = c.in_ok-push-in-Atom.ensures.put ∙ ap (λ z. c.args.out.now ++ z) p; few = c.in_ok-push-in-Atom.ensures.few })

pub returns-in_err-push-in-Last : goal.returns-in_err-push-in-Last
returns-in_err-push-in-Last t c =
    let x = c.in-Last.x in
    let s = c.args.bytes.now in
    let e : 8 ∷ x ∷ c.in_ok-sign.rest.now ≡ s = sign_is _ _ _ _ c.in_ok-sign.ensures c.in-Last.is in
    rw c.from_residual-in_err-push-in-Last.ensures
    (no_room c.args.of_row _ (last x) s c.in_ok-sign.rest.now e (subst (λ z. 1024 < length c.args.out.now + length z) c.last.ensures c.in_err-push-in-Last.ensures.put))

pub returns-in_ok-push-in-Last : goal.returns-in_ok-push-in-Last
returns-in_ok-push-in-Last t c =
    let x = c.in-Last.x in
    let s = c.args.bytes.now in
    let e : 8 ∷ x ∷ c.in_ok-sign.rest.now ≡ s = sign_is _ _ _ _ c.in_ok-sign.ensures c.in-Last.is in
    (last x, record { read = e; put = c.in_ok-push-in-Last.ensures.put ∙ ap (λ z. c.args.out.now ++ z) c.last.ensures; few = c.in_ok-push-in-Last.ensures.few })

pub returns-in_err-push-in-Not : goal.returns-in_err-push-in-Not
returns-in_err-push-in-Not t c =
    let e : 4 ∷ c.in_ok-sign.rest.now ≡ c.args.bytes.now = sign_is _ _ _ _ c.in_ok-sign.ensures c.in-Not.is in
    let l : 1024 < length c.args.out.now + 1 = c.in_err-push-in-Not.ensures.put in
    rw c.from_residual-in_err-push-in-Not.ensures (no_not c.args.of_row _ _ c.args.bytes.now e (λ d u f. omega arith))

pub returns-in_ok-push-in-Not : goal.returns-in_ok-push-in-Not
returns-in_ok-push-in-Not t c =
    let r = c.args.of_row in
    let o = c.args.out.now in
    let m = c.push-in-Not.new.self in
    let o' = c.put_in_row.new.out in
    let q = c.in_ok-sign.rest.now in
    let s = c.args.bytes.now in
    let e : 4 ∷ q ≡ s = sign_is _ _ _ _ c.in_ok-sign.ensures c.in-Not.is in
    let i : m ≡ o ++ 4 ∷ [] = c.in_ok-push-in-Not.ensures.put in
    lift r o m o' q s _ (over_not r o m o' q s e i) (λ d u f. (not1 d, put_not r o m o' q s d u e i f)) c.put_in_row.ensures

pub returns-in_err-push-in-And : goal.returns-in_err-push-in-And
returns-in_err-push-in-And t c =
    let e : 5 ∷ c.in_ok-sign.rest.now ≡ c.args.bytes.now = sign_is _ _ _ _ c.in_ok-sign.ensures c.in-And.is in
    let l : 1024 < length c.args.out.now + 1 = c.in_err-push-in-And.ensures.put in
    rw c.from_residual-in_err-push-in-And.ensures (no_and c.args.of_row _ _ c.args.bytes.now e (λ d d' u f. omega arith))

pub returns-in_err-more-in-And : goal.returns-in_err-more-in-And
returns-in_err-more-in-And t c =
    let o = c.args.out.now in
    let m = c.push-in-And.new.self in
    let q = c.in_ok-sign.rest.now in
    let e : 5 ∷ q ≡ c.args.bytes.now = sign_is _ _ _ _ c.in_ok-sign.ensures c.in-And.is in
    let i : m ≡ o ++ 5 ∷ [] = c.in_ok-push-in-And.ensures.put in
    rw c.from_residual-in_err-more-in-And.ensures (over_first c.args.of_row o m o q c.args.bytes.now e i c.in_err-more-in-And.ensures)

pub returns-in_ok-more-in-And : goal.returns-in_ok-more-in-And
returns-in_ok-more-in-And t c =
    let r = c.args.of_row in
    let o = c.args.out.now in
    let m = c.push-in-And.new.self in
    let n = c.put_in_row-in-And.new.out in
    let o' = c.put_in_row-in-And-2.new.out in
    let q = c.in_ok-sign.rest.now in
    let s = c.args.bytes.now in
    let u = c.in_ok-more-in-And.more.now in
    let e : 5 ∷ q ≡ s = sign_is _ _ _ _ c.in_ok-sign.ensures c.in-And.is in
    let i : m ≡ o ++ 5 ∷ [] = c.in_ok-push-in-And.ensures.put in
    let (d, f) = c.in_ok-more-in-And.ensures in
    lift r o n o' u s _ (over_second r d o m n q s u e i f) (λ d' t g. (and1 d d', put_and r d o m n q s u e i f d' o' t g)) c.put_in_row-in-And-2.ensures

pub returns-in_err-push-in-Some : goal.returns-in_err-push-in-Some
returns-in_err-push-in-Some t c =
    let e : 6 ∷ c.in-Some.x ∷ c.in_ok-sign.rest.now ≡ c.args.bytes.now = sign_is _ _ _ _ c.in_ok-sign.ensures c.in-Some.is in
    let l : 1024 < length c.args.out.now + 6 = c.in_err-push-in-Some.ensures.put in
    rw c.from_residual-in_err-push-in-Some.ensures (no_some c.args.of_row _ _ _ c.args.bytes.now e (λ d u f. omega arith))

pub returns-in_ok-push-in-Some : goal.returns-in_ok-push-in-Some
returns-in_ok-push-in-Some t c =
    let r = c.args.of_row in
    let o = c.args.out.now in
    let x = c.in-Some.x in
    let m = c.push-in-Some.new.self in
    let o' = c.put_in_row-in-Some.new.out in
    let q = c.in_ok-sign.rest.now in
    let s = c.args.bytes.now in
    let e : 6 ∷ x ∷ q ≡ s = sign_is _ _ _ _ c.in_ok-sign.ensures c.in-Some.is in
    let i : m ≡ o ++ 6 ∷ x ∷ 5 ∷ 0 ∷ x ∷ r ∷ [] = c.in_ok-push-in-Some.ensures.put in
    lift r o m o' q s _ (over_some r o m o' q s x e i) (λ d u f. (some x d, put_some r o m o' q s x d u e i f)) c.put_in_row-in-Some.ensures
