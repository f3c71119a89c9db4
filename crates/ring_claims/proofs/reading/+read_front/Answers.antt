use Rattle.std.proofs.Common.{◌≡◌, ap, ◌∷◌, arith, ltb→lt, leb→le}
use Rattle.kinds.specs.Atoms.{sets_of}
use Rattle.ring_claims.specs.Meaning.{atom, atom_of}
use Rattle.ring_claims.proofs.SignLaws.{no_sign, sign_is}
use Rattle.ring_claims.proofs.FrontLaws.{carry, no_other, no_not, no_some, no_first, no_second}
use Rattle.ring_claims.proofs.reading.+read_front.Goals as goal

pub returns-in_default : goal.returns-in_default
returns-in_default t c = λ e. no_sign c.args.k c.args.bytes.now c.in_default.ensures

pub returns-in_err-c-in-Not : goal.returns-in_err-c-in-Not
returns-in_err-c-in-Not t c =
    let e : 4 ∷ c.in-Some.rest.now ≡ c.args.bytes.now = sign_is _ _ _ _ c.in-Some.ensures c.in-Not.is in
    carry _ _ _ _ c.from_residual.ensures.1 (λ q. no_not _ _ _ e (c.in_err-c-in-Not.ensures q))

pub returns-in_err-c-in-And : goal.returns-in_err-c-in-And
returns-in_err-c-in-And t c =
    let e : 5 ∷ c.in-Some.rest.now ≡ c.args.bytes.now = sign_is _ _ _ _ c.in-Some.ensures c.in-And.is in
    carry _ _ _ _ c.from_residual-in_err-c-in-And.ensures.1 (λ q. no_first _ _ _ e (c.in_err-c-in-And.ensures q))

pub returns-in_err-d-in-And : goal.returns-in_err-d-in-And
returns-in_err-d-in-And t c =
    let e : 5 ∷ c.in-Some.rest.now ≡ c.args.bytes.now = sign_is _ _ _ _ c.in-Some.ensures c.in-And.is in
    carry _ _ _ _ c.from_residual-in_err-d-in-And.ensures.1 (λ q. no_second _ _ _ _ _ e c.in_ok-c-in-And.ensures (c.in_err-d-in-And.ensures q))

pub returns-in_err-c-in-Some-sign : goal.returns-in_err-c-in-Some-sign
returns-in_err-c-in-Some-sign t c =
    let e : 6 ∷ c.in-Some-sign.x ∷ c.in-Some.rest.now ≡ c.args.bytes.now = sign_is _ _ _ _ c.in-Some.ensures c.in-Some-sign.is in
    carry _ _ _ _ c.from_residual-in_err-c-in-Some-sign.ensures.1 (λ q. no_some _ _ _ _ e (λ l. c.in_err-c-in-Some-sign.ensures q))

pub returns-then-x-k : goal.returns-then-x-k
returns-then-x-k t c = λ q.
    let e : 6 ∷ c.in-Some-sign.x ∷ c.in-Some.rest.now ≡ c.args.bytes.now = sign_is _ _ _ _ c.in-Some.ensures c.in-Some-sign.is in
    no_some _ _ _ _ e (λ l. let z : ⊥ = omega (arith, ltb→lt _ _ l) in absurd z)

pub returns-else-sets-k : goal.returns-else-sets-k
returns-else-sets-k t c = λ q.
    let a = c.in-Atom.a in
    no_other c.args.k (atom a) _ _ (sign_is _ _ _ _ c.in-Some.ensures c.in-Atom.is) (λ h. let l = leb→le (sets_of (atom_of a)) c.args.k h in omega (arith, l, c.sets.ensures, ap sets_of c.atom.ensures))
