-- A formula or a term: what it says, and where it stands.
use Rattle.trees.specs.declared.position.Span.{Span}
use Rattle.trees.specs.declared.tree.Spanned.{Spanned}
use Rattle.trees.specs.declared.tree.ExprKind.{ExprKind}

abbrev pub Expr : Type 0
Expr = Spanned ExprKind

-- this is said at that place
abbrev pub at : ExprKind → Span → Expr
at kind span = record { kind = kind; span = span }
