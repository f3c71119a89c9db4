use Rattle.std.proofs.Common.{◌≡◌, ap, ℕ, List, ◌∷◌, Some, None, Option, arith, ltb→lt, lt→ltb, le→leb, leb→le, Bor, MatchOption}
use Rattle.kinds.specs.Atoms.{sets_of}
use Rattle.ring_claims.specs.Meaning.{RingClaim, atom, not1, and1, some, atom_of}
use Rattle.ring_claims.specs.Fronts.{RingFront, NoRingFront}
use Rattle.ring_claims.proofs.SignLaws.{sign_is, no_sign}
use Rattle.ring_claims.proofs.FrontLaws.{no_other, front_not, no_not, front_some, no_some, front_and, no_first, no_second}
use Rattle.ring_claims.proofs.prefix.+skip.Goals as goal

-- what the answer for the last part says of the whole
lift : (k : ℕ) (r s : List ℕ) (o : Option (Bor (List ℕ))) → (NoRingFront k r → NoRingFront k s) → ((c : RingClaim) (t : List ℕ) → RingFront k c r t → (d : RingClaim) × RingFront k d s t) → MatchOption o (NoRingFront k r) (λ p. (c : RingClaim) × RingFront k c r p.now) → MatchOption o (NoRingFront k s) (λ p. (d : RingClaim) × RingFront k d s p.now)
lift k r s None f g h = f h
lift k r s (Some p) f g h = g h.0 p.now h.1

pub returns-in_err-sign : goal.returns-in_err-sign
returns-in_err-sign t c = rw c.from_residual.ensures (no_sign c.args.k c.args.bytes.now c.in_err-sign.ensures)

pub returns-in_err-more-in-And : goal.returns-in_err-more-in-And
returns-in_err-more-in-And t c =
    let e : 5 ∷ c.in_ok-sign.rest.now ≡ c.args.bytes.now = sign_is _ _ _ _ c.in_ok-sign.ensures c.in-And.is in
    rw c.from_residual-in_err-more-in-And.ensures (no_first c.args.k c.in_ok-sign.rest.now c.args.bytes.now e c.in_err-more-in-And.ensures)

pub returns-in-Not : goal.returns-in-Not
returns-in-Not t c =
    let e : 4 ∷ c.in_ok-sign.rest.now ≡ c.args.bytes.now = sign_is _ _ _ _ c.in_ok-sign.ensures c.in-Not.is in
    lift _ _ _ _ (no_not _ _ _ e) (λ d t f. (not1 d, front_not _ _ _ _ _ e f)) c.skip.ensures

pub returns-in_ok-more-in-And : goal.returns-in_ok-more-in-And
returns-in_ok-more-in-And t c =
    let e : 5 ∷ c.in_ok-sign.rest.now ≡ c.args.bytes.now = sign_is _ _ _ _ c.in_ok-sign.ensures c.in-And.is in
    let (d, f) = c.in_ok-more-in-And.ensures in
    let k = c.args.k in
    let r = c.in_ok-sign.rest.now in
    let s = c.args.bytes.now in
    let m = c.in_ok-more-in-And.more.now in
    lift k m s _ (no_second k d r s m e f) (λ d' t f'. (and1 d d', front_and k d d' r s m t e f f')) c.skip-in-And-2.ensures

pub returns-then-x-k : goal.returns-then-x-k
returns-then-x-k t c =
    let e : 6 ∷ c.in-Some.x ∷ c.in_ok-sign.rest.now ≡ c.args.bytes.now = sign_is _ _ _ _ c.in_ok-sign.ensures c.in-Some.is in
    lift _ _ _ _ (λ n. no_some _ _ _ _ e (λ l. n)) (λ d t f. (some _ d, front_some _ _ _ _ _ _ e (lt→ltb _ _ c.if-x-k.true) f)) c.skip-then-x-k.ensures

pub returns-else-x-k : goal.returns-else-x-k
returns-else-x-k t c =
    let e : 6 ∷ c.in-Some.x ∷ c.in_ok-sign.rest.now ≡ c.args.bytes.now = sign_is _ _ _ _ c.in_ok-sign.ensures c.in-Some.is in
    no_some _ _ _ _ e (λ l. let z : ⊥ = omega (arith, ltb→lt _ _ l) in absurd z)

pub returns-then-sets-k : goal.returns-then-sets-k
returns-then-sets-k t c =
    let a = c.in-Atom.a in
    (atom a, record { bytes = sign_is _ _ _ _ c.in_ok-sign.ensures c.in-Atom.is; fine = le→leb (sets_of (atom_of a)) c.args.k (omega (arith, c.sets.ensures, ap sets_of c.atom.ensures)) })

pub returns-else-sets-k : goal.returns-else-sets-k
returns-else-sets-k t c =
    let a = c.in-Atom.a in
    no_other c.args.k (atom a) _ _ (sign_is _ _ _ _ c.in_ok-sign.ensures c.in-Atom.is) (λ h. let l = leb→le (sets_of (atom_of a)) c.args.k h in omega (arith, l, c.sets.ensures, ap sets_of c.atom.ensures))
