use Rattle.std.proofs.Common.{◌≡◌, ℕ, List, ◌∷◌, refl, Some, None, Option, arith, ltb→lt, leb→le, MatchOption}
use Rattle.kinds.specs.Atoms.{sets_of}
use Rattle.claims.specs.Claims.{C, atom, not1, and1, some}
use Rattle.claims.specs.Fronts.{NoFront}
use Rattle.claims.proofs.SignLaws.{sign_is, no_sign}
use Rattle.claims.proofs.FrontLaws.{no_other, no_not, no_some, no_first, no_second}
use Rattle.workspace.specs.Extents.{Read}
use Rattle.workspace.specs.declared.part.Part.{Part}
use Rattle.workspace.proofs.PartLaws.{read_atom, read_not, read_and, read_some}
use Rattle.workspace.proofs.part.+read_part.Goals as goal

-- what the answer for the part says of its opposite
turned : (k : ℕ) (r s : List ℕ) (o : Option Part) → 4 ∷ r ≡ s → MatchOption o (NoFront k r) (λ p. (c : C) × Read k c r p) → MatchOption o (NoFront k s) (λ p. (c : C) × Read k c s p)
turned k r s None e h = no_not k r s e h
turned k r s (Some p) e h = (not1 h.0, read_not k h.0 r s p e h.1)

pub returns-in_err-sign : goal.returns-in_err-sign
returns-in_err-sign t c = rw c.from_residual.ensures (no_sign c.args.k c.args.bytes.now c.in_err-sign.ensures)

pub returns-in_err-first-in-And : goal.returns-in_err-first-in-And
returns-in_err-first-in-And t c =
    let e : 5 ∷ c.in_ok-sign.rest.now ≡ c.args.bytes.now = sign_is _ _ _ _ c.in_ok-sign.ensures c.in-And.is in
    rw c.from_residual-in_err-first-in-And.ensures (no_first c.args.k c.in_ok-sign.rest.now c.args.bytes.now e c.in_err-first-in-And.ensures)

pub returns-in_err-second-in-And : goal.returns-in_err-second-in-And
returns-in_err-second-in-And t c =
    let e : 5 ∷ c.in_ok-sign.rest.now ≡ c.args.bytes.now = sign_is _ _ _ _ c.in_ok-sign.ensures c.in-And.is in
    let (d, f) = c.in_ok-first-in-And.ensures in
    rw c.from_residual-in_err-second-in-And.ensures (no_second c.args.k d c.in_ok-sign.rest.now c.args.bytes.now c.in_ok-first-in-And.first.rest.now e f.front c.in_err-second-in-And.ensures)

pub returns-in_err-part-in-Some : goal.returns-in_err-part-in-Some
returns-in_err-part-in-Some t c =
    let e : 6 ∷ c.in-Some.x.0 ∷ c.in_ok-sign.rest.now ≡ c.args.bytes.now = sign_is _ _ _ _ c.in_ok-sign.ensures c.in-Some.is in
    rw c.from_residual-in_err-part-in-Some.ensures (no_some _ _ _ _ e (λ l. c.in_err-part-in-Some.ensures))

pub returns-then-sets-k : goal.returns-then-sets-k
returns-then-sets-k t c =
    let a = c.in-Atom.atom in
    (atom a, read_atom c.args.k a c.args.bytes.now _ (sign_is _ _ _ _ c.in_ok-sign.ensures c.in-Atom.is) (omega (arith, c.sets.ensures)) (omega (arith, c.mentioned-sets.ensures.of)) c.mentioned-sets.ensures.chosen c.count.ensures.value)

pub returns-else-sets-k : goal.returns-else-sets-k
returns-else-sets-k t c =
    let a = c.in-Atom.atom in
    no_other c.args.k (atom a) _ _ (sign_is _ _ _ _ c.in_ok-sign.ensures c.in-Atom.is) (λ h. let l = leb→le (sets_of a) c.args.k h in omega (arith, l, c.sets.ensures))

pub returns-in-Not : goal.returns-in-Not
returns-in-Not t c =
    let e : 4 ∷ c.in_ok-sign.rest.now ≡ c.args.bytes.now = sign_is _ _ _ _ c.in_ok-sign.ensures c.in-Not.is in
    turned c.args.k c.in_ok-sign.rest.now c.args.bytes.now _ e c.read_part.ensures

pub returns-in_ok-second-in-And : goal.returns-in_ok-second-in-And
returns-in_ok-second-in-And t c =
    let e : 5 ∷ c.in_ok-sign.rest.now ≡ c.args.bytes.now = sign_is _ _ _ _ c.in_ok-sign.ensures c.in-And.is in
    let (d, f) = c.in_ok-first-in-And.ensures in
    let (d', g) = c.in_ok-second-in-And.ensures in
    let k = c.args.k in
    (and1 d d', read_and k d d' c.in_ok-sign.rest.now c.args.bytes.now c.in_ok-first-in-And.first c.in_ok-second-in-And.second _ e f g refl c.with-sets.ensures.of c.with-sets.ensures.chosen (omega (arith, c.count-in-And.ensures.value, c.max.ensures, c.max-in-And.ensures)))

pub returns-in_ok-part-in-Some : goal.returns-in_ok-part-in-Some
returns-in_ok-part-in-Some t c =
    let e : 6 ∷ c.in-Some.x.0 ∷ c.in_ok-sign.rest.now ≡ c.args.bytes.now = sign_is _ _ _ _ c.in_ok-sign.ensures c.in-Some.is in
    let (d, f) = c.in_ok-part-in-Some.ensures in
    (some c.in-Some.x.0 d, read_some c.args.k c.in-Some.x.0 d c.in_ok-sign.rest.now c.args.bytes.now c.in_ok-part-in-Some.part _ e c.if-x-k.true f refl c.without-sets.ensures.of c.without-sets.ensures.gone c.without-sets.ensures.others (omega (arith, c.count-then-x-k.ensures.value, c.max-then-x-k.ensures)))

pub returns-else-x-k : goal.returns-else-x-k
returns-else-x-k t c =
    let e : 6 ∷ c.in-Some.x.0 ∷ c.in_ok-sign.rest.now ≡ c.args.bytes.now = sign_is _ _ _ _ c.in_ok-sign.ensures c.in-Some.is in
    no_some _ _ _ _ e (λ l. let z : ⊥ = omega (arith, ltb→lt _ _ l) in absurd z)
