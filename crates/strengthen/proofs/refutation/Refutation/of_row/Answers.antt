use Rattle.std.proofs.Common.{ap, sym, subst, ◌∙◌}
use Rattle.words.specs.Words.{Columns}
use Rattle.rows.specs.Rows.{step}
use Rattle.keeping.proofs.KeptLaws.{after_columns}
use Rattle.strengthen.proofs.refutation.Refutation.of_row.Goals as goal

pub marks_of-requires-2-clause-columns : goal.marks_of-requires-2-clause-columns
marks_of-requires-2-clause-columns c =
    let r = c.args.given.keeping.now.rule.now in
    subst (Columns r.bits) (sym (c.deref-2.ensures.value ∙ c.in_ok-after.ensures.after ∙ ap (λ R. step r.layout r.bits R c.args.row.now) c.deref.ensures.value)) (after_columns r.layout r.bits r.table.items c.args.row.now)
