use Rattle.std.proofs.Common.{◌≡◌, min, length, sym, ap, ◌∙◌, subst, arith}
use Rattle.claims.specs.Claims.{C}
use Rattle.claims.specs.Rows.{Claim}
use Rattle.claims.specs.Trees.{said}
use Rattle.claims.specs.Encoded as encoded
use Rattle.formulas.specs.Names.{names, Among}
use Rattle.translation.specs.Settles.{Covers}
use Rattle.formula_claims.proofs.ClaimedLaws.{bytes_are, claimed}
use Rattle.formula_claims.proofs.claimed.claim_bytes.Goals as goal

pub returns-then-needed-gt-MOST_BYTES : goal.returns-then-needed-gt-MOST_BYTES
returns-then-needed-gt-MOST_BYTES c =
    let e = bytes_are c.args.names.now c.args.formula.now in
    let r = c.bytes_needed-needed.ensures in
    (omega (arith, e, r), r ∙ ap (λ z. min z 18446744073709551615) e)

pub returns : goal.returns
returns c =
    let l = c.args.names.now in
    let a = c.args.formula.now in
    let free : c.deref.result.now ≡ names a = c.deref.ensures.value ∙ c.in_ok-free.ensures in
    let covers : Covers l a = λ x h. c.in_default.ensures x (subst (Among x) (sym free) h) in
    claimed l a c.in_ok-bytes.bytes.items covers (subst (λ (d : C). Claim c.in_ok-bytes.bytes.items (encoded.sets_needed (length l) d) d) (ap said c.deref-2.ensures ∙ c.in_ok-claim.ensures) c.in_ok-bytes.ensures)
