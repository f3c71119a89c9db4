use Rattle.std.proofs.Common.{is_some, sym, ap, ◌∙◌}
use Rattle.resolve.proofs.ScopesLaws.{in_row_is, row_shape}
use Rattle.resolve.proofs.scope.is_in_row.Goals as goal

pub returns-clause-space : goal.returns-clause-space
returns-clause-space c = λ e. in_row_is c.args.scope.now e ∙ sym (c.is_some.ensures ∙ ap is_some c.row_of.ensures)

pub returns-clause-shape : goal.returns-clause-shape
returns-clause-shape c = row_shape c.args.scope.now ∙ sym (c.is_some.ensures ∙ ap is_some c.row_of.ensures)
