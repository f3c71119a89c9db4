use Rattle.std.proofs.Common.{sym, subst, arith}
use Rattle.formulas.specs.declared.formula.Formula.{Formula}
use Rattle.keeping.specs.Breaches.{names_ok}
use Rattle.std.specs.Prelude.{IsTrue}
use Rattle.rules.proofs.ChangedLaws.{true_is}
use Rattle.strengthen.proofs.ListedLaws.{claim_names}
use Rattle.strengthen.proofs.table.tables_of.Goals as goal

pub table_of-requires : goal.table_of-requires
table_of-requires c =
    let g = c.args.given in
    record { names = subst (λ (d : Formula). IsTrue (names_ok g.keeping.now.rule.now.bits d)) (sym c.claim.ensures) (true_is _ (claim_names g c.loop-j.j (omega arith))) }
