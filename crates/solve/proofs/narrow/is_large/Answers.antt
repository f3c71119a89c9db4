use Rattle.std.proofs.Common.{subst, ◌∙◌}
use Rattle.formula_claims.specs.Claimed.{Refused}
use Rattle.formula_claims.specs.declared.claimed.Refusal.TheVariants.{Unlisted}
use Rattle.solve.proofs.NarrowingLaws.{unlisted}
use Rattle.solve.proofs.narrow.is_large.Goals as goal

pub returns-in-Err-Unlisted : goal.returns-in-Err-Unlisted
returns-in-Err-Unlisted c =
    let own = c.deref.ensures.value ∙ c.in_ok-names.ensures in
    unlisted c.args.n c.args.formula.now c.in-Err-Unlisted.field-0-0
    (subst (λ l. Refused l c.args.formula.now (Unlisted c.in-Err-Unlisted.field-0-0)) own (rw c.in-Err-Unlisted.field-0-is at c.in-Err-Unlisted.ensures))
