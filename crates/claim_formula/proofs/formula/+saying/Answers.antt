use Rattle.std.proofs.Common.{◌≡◌, ℕ, Bool, true, List, ◌⊎◌, IfOk, refl, sym, ap, subst}
use Rattle.claims.specs.Claims.{not1, and1, some}
use Rattle.claims.specs.Trees.{said}
use Rattle.formulas.specs.Meaning.{Meaning, with_place, with_group}
use Rattle.claim_formula.specs.Forced.{forces}
use Rattle.claim_formula.specs.Saying.{Says, Tells, is_place, bound}
use Rattle.claim_formula.proofs.BindersLaws.{some_place_tells, no_place_tells, some_set_tells, no_set_tells}
use Rattle.claim_formula.proofs.TellingLaws.{means_tells, and_tells, not_tells, twice_tells, follows_tells, either_tells}
use Rattle.claim_formula.proofs.formula.+saying.Goals as goal

pub fails-returns-in_ok-a-in-Not : goal.fails-returns-in_ok-a-in-Not
fails-returns-in_ok-a-in-Not t c =
    let σ = is_place c.args.scope.now in
    let e : said c.args.claim.now ≡ not1 (said c.deref.result.now) = rw (c.in-Not.is, c.deref.ensures) refl in
    subst (λ z. Says σ c.in_ok-a-in-Not.a.value (not1 z)) (sym e) (twice_tells σ (Meaning c.in_ok-a-in-Not.a.value) (said c.deref.result.now) c.in_ok-a-in-Not.ensures)

pub fails-returns-in_ok-either-in-Not-deref : goal.fails-returns-in_ok-either-in-Not-deref
fails-returns-in_ok-either-in-Not-deref t c =
    let σ = is_place c.args.scope.now in
    let p = said c.deref-in-Not-deref.result.now in
    let q = said c.deref-in-And-2.result.now in
    let a = c.in_ok-a-in-Not-deref.a.value in
    let b = c.in_ok-b-in-And-2.b.value in
    let r = c.in_ok-either-in-Not-deref.field-0.value in
    let s : said c.deref-in-And-3.result.now ≡ not1 p = rw (c.in-Not-deref.is, c.deref-in-Not-deref.ensures) refl in
    let e : said c.args.claim.now ≡ and1 (not1 p) q = rw (c.in-And.is, sym c.deref-in-And-3.ensures, c.deref-in-And-2.ensures) (ap (λ z. and1 z (said c.in-And.d.value)) s) in
    subst (λ z. Says σ r (not1 z)) (sym e) (
    means_tells σ r (λ g. Meaning a g ⊎ Meaning b g) (not1 (and1 (not1 p) q)) c.in_ok-either-in-Not-deref.ensures
    (either_tells σ (Meaning a) (Meaning b) p q c.in_ok-a-in-Not-deref.ensures c.in_ok-b-in-And-2.ensures)
    )

pub fails-returns-in-Some : goal.fails-returns-in-Some
fails-returns-in-Some t c =
    let e : said c.args.claim.now ≡ some c.in-Some.x (said c.deref-in-Some.result.now) = cc in
    subst (λ z. IfOk c.none.result (λ r. Says (is_place c.args.scope.now) r.value (not1 z))) (sym e) c.none.ensures

pub holds-returns-in-Not : goal.holds-returns-in-Not
holds-returns-in-Not t c =
    let e : said c.args.claim.now ≡ not1 (said c.deref.result.now) = cc in
    subst (λ z. IfOk c.fails.result (λ r. Says (is_place c.args.scope.now) r.value z)) (sym e) c.fails.ensures

pub holds-returns-in-Some : goal.holds-returns-in-Some
holds-returns-in-Some t c =
    let e : said c.args.claim.now ≡ some c.in-Some.x (said c.deref-in-Some.result.now) = cc in
    subst (λ z. IfOk c.some.result (λ r. Says (is_place c.args.scope.now) r.value z)) (sym e) c.some.ensures

pub no_place-returns-then-not-is_not : goal.no_place-returns-then-not-is_not
no_place-returns-then-not-is_not t c σ q f =
    let x = c.args.x in
    let m = said c.deref-then-not-is_not.result.now in
    let n = said c.deref-then-not-is_not-2.result.now in
    let a = c.in_ok-a.a.value in
    let b = c.in_ok-b.b.value in
    let e : said c.args.c.now ≡ and1 m n = rw (c.in-And.is, c.deref-then-not-is_not.ensures, c.deref-then-not-is_not-2.ensures) refl in
    let p = subst (λ τ. Tells τ (λ g. Meaning a g → Meaning b g) (not1 (and1 m n))) q
    (follows_tells (is_place c.args.scope.now) (Meaning a) (Meaning b) m n c.in_ok-a.ensures c.in_ok-b.ensures) in
    let r = no_place_tells σ x (λ g. Meaning a g → Meaning b g) (and1 m n) (subst (λ z. forces x z ≡ true) e f) p in
    subst (λ z. Says σ c.in_ok-whole.whole.value (not1 (some x z))) (sym e)
    (means_tells σ c.in_ok-whole.whole.value (λ g. (i : ℕ) → Meaning a (with_place g x i) → Meaning b (with_place g x i)) (not1 (some x (and1 m n))) c.in_ok-whole.ensures r)

pub no_place-returns : goal.no_place-returns
no_place-returns t c σ q f =
    let a = c.in_ok-a-2.a.value in
    let d = said c.args.c.now in
    rw c.in_ok-new.ensures.ok (no_place_tells σ c.args.x (Meaning a) d f (subst (λ τ. Tells τ (Meaning a) (not1 d)) q c.in_ok-a-2.ensures))

pub none-returns-then-not-ends_in_not : goal.none-returns-then-not-ends_in_not
none-returns-then-not-ends_in_not t c =
    let σ = is_place c.args.scope.now in
    let d = some c.args.x (said c.args.c.now) in
    means_tells σ c.in_ok-whole.whole.value (λ g. Meaning c.in_ok-a.a.value g → ⊥) (not1 d) c.in_ok-whole.ensures (not_tells σ (Meaning c.in_ok-a.a.value) d c.in_ok-a.ensures)

pub none-returns-then-forces : goal.none-returns-then-forces
none-returns-then-forces t c =
    let σ = is_place c.args.scope.now in
    let d = said c.args.c.now in
    let f : forces c.args.x d ≡ true = cc in
    let n = c.in_ok-n.ensures in
    subst (λ z. Says σ c.in_ok-whole-2.whole.value (not1 (some z d))) n
    (c.in_ok-whole-2.ensures σ (ap (λ z. bound σ z true) (sym n)) (subst (λ z. forces z d ≡ true) (sym n) f))

pub none-returns : goal.none-returns
none-returns t c =
    let σ = is_place c.args.scope.now in
    let d = said c.args.c.now in
    let a = c.in_ok-a-2.a.value in
    rw c.in_ok-new.ensures.ok (
    subst (λ z. Tells σ (λ g. (u : List Bool) → Meaning a (with_group g z u)) (not1 (some c.args.x d))) (sym c.in_ok-n.ensures)
    (no_set_tells σ c.args.x (Meaning a) d c.in_ok-a-2.ensures)
    )

pub some-returns-then-forces : goal.some-returns-then-forces
some-returns-then-forces t c =
    let σ = is_place c.args.scope.now in
    let d = said c.args.c.now in
    let f : forces c.args.x d ≡ true = cc in
    let n = c.in_ok-n.ensures in
    subst (λ z. Says σ c.in_ok-whole.whole.value (some z d)) n
    (c.in_ok-whole.ensures σ (ap (λ z. bound σ z true) (sym n)) (subst (λ z. forces z d ≡ true) (sym n) f))

pub some-returns : goal.some-returns
some-returns t c =
    let σ = is_place c.args.scope.now in
    let d = said c.args.c.now in
    let a = c.in_ok-a.a.value in
    rw c.in_ok-new.ensures.ok (
    subst (λ z. Tells σ (λ g. (u : List Bool) × Meaning a (with_group g z u)) (some c.args.x d)) (sym c.in_ok-n.ensures)
    (some_set_tells σ c.args.x (Meaning a) d c.in_ok-a.ensures)
    )

pub some_place-returns-in-And : goal.some_place-returns-in-And
some_place-returns-in-And t c σ q f =
    let x = c.args.x in
    let m = said c.deref.result.now in
    let n = said c.deref-in-And.result.now in
    let a = c.in_ok-a.a.value in
    let b = c.in_ok-b.b.value in
    let e : said c.args.c.now ≡ and1 m n = rw (c.in-And.is, c.deref.ensures, c.deref-in-And.ensures) refl in
    let p = subst (λ τ. Tells τ (λ g. Meaning a g × Meaning b g) (and1 m n)) q
    (and_tells (is_place c.args.scope.now) (Meaning a) (Meaning b) m n c.in_ok-a.ensures c.in_ok-b.ensures) in
    let r = some_place_tells σ x (λ g. Meaning a g × Meaning b g) (and1 m n) (subst (λ z. forces x z ≡ true) e f) p in
    subst (λ z. Says σ c.in_ok-whole.whole.value (some x z)) (sym e)
    (means_tells σ c.in_ok-whole.whole.value (λ g. (i : ℕ) × (Meaning a (with_place g x i) × Meaning b (with_place g x i))) (some x (and1 m n)) c.in_ok-whole.ensures r)

pub some_place-returns : goal.some_place-returns
some_place-returns t c σ q f =
    let a = c.in_ok-a-2.a.value in
    let d = said c.args.c.now in
    rw c.in_ok-new.ensures.ok (some_place_tells σ c.args.x (Meaning a) d f (subst (λ τ. Tells τ (Meaning a) d) q c.in_ok-a-2.ensures))
