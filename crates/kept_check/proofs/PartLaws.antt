-- The claim about a part tells of the rows that show that the part does not follow.
use Rattle.std.proofs.Common.{T, []}
use Rattle.formulas.specs.declared.formula.Formula.{Formula}
use Rattle.formulas.specs.Names.{names}
use Rattle.rows.specs.RowClaims.{Tells}
use Rattle.keeping.specs.Breaches.{names_ok}
use Rattle.keeping.specs.declared.moment.Moment.{Moment}
use Rattle.keeping.proofs.BreachesLaws.{breaches_told}
use Rattle.rules.proofs.ChangedLaws.{is_true, has_them}
use Rattle.kept_claims.specs.Breach.{Breaks, changed_by, claim_of}
use Rattle.kept_claims.specs.declared.kept.Keeping.{Keeping}

pub part_tells : (k : Keeping) (d : Formula) (m : Moment) → T (names_ok k.rule.now.bits d) → Tells k.rule.now.bits (claim_of k d m) (Breaks k d m)
part_tells k d m t =
    let r = k.rule.now in
    breaches_told r.layout r.bits (changed_by r d) r.table.items k.start.now k.claim.value d r.one (is_true _ r.lines) (is_true _ k.starts) (is_true _ k.names) t (has_them r.bits [] (names d) r.table.items tt t) m
