use Rattle.std.proofs.Common.{◌≡◌, ◌+◌, ◌*◌, List, drop}
use Rattle.tokens.specs.Words.{Word}
use Rattle.syntax.specs.Plain.{list, list_more}
use Rattle.syntax.specs.Views.{view_all}
use Rattle.syntax.specs.Printed.{texts}
use Rattle.printing.specs.Writing.{text_with, is_all}
use Rattle.printing.proofs.print.+printing.Given as goal

-- what is deeper counts more, and what calls another for the same expression stands behind it
abbrev pub decreases-put : goal.decreases-put
decreases-put l = 3 * goal.size-put l

abbrev pub decreases-put_all : goal.decreases-put_all
decreases-put_all l = 3 * goal.size-put_all l + 1

abbrev pub decreases-put_enclosed : goal.decreases-put_enclosed
decreases-put_enclosed l = 3 * goal.size-put_enclosed l + 1

abbrev pub decreases-put_operand : goal.decreases-put_operand
decreases-put_operand l = 3 * goal.size-put_operand l + 2

abbrev pub invariant-put_all-loop-expr : goal.invariant-put_all-loop-expr
invariant-put_all-loop-expr l = (rest : List Word) → text_with l.writer (list_more (texts (is_all l.style) (view_all (drop l.expr-index l.further))) rest) ≡ text_with l.fn.writer (list (texts (is_all l.style) (view_all l.all)) rest)
