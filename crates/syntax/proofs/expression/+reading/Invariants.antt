use Rattle.std.proofs.Common.{◌≡◌, ℕ, ◌<◌, ◌≤◌, length, ◌+◌, ◌*◌}
use Rattle.syntax.specs.Parsing.{parse, climb, items, more_items, up_to, depth, depths}
use Rattle.tokens.specs.Words.{words}
use Rattle.syntax.specs.Views.{view, view_all}
use Rattle.syntax.proofs.expression.+reading.Given as goal

-- an expression counts, and what it calls without counting stands in this order
abbrev pub decreases-expression : goal.decreases-expression
decreases-expression l = 5 * l.calls

abbrev pub decreases-list : goal.decreases-list
decreases-list l = 5 * l.calls + 1

abbrev pub decreases-enclosed : goal.decreases-enclosed
decreases-enclosed l = 5 * l.calls + 1

abbrev pub decreases-prefix : goal.decreases-prefix
decreases-prefix l = 5 * l.calls + 1

abbrev pub decreases-bound : goal.decreases-bound
decreases-bound l = 5 * l.calls + 1

abbrev pub decreases-listed : goal.decreases-listed
decreases-listed l = 5 * l.calls + 2

abbrev pub decreases-count : goal.decreases-count
decreases-count l = 5 * l.calls + 1

abbrev pub decreases-arguments : goal.decreases-arguments
decreases-arguments l = 5 * l.calls + 2

abbrev pub decreases-named : goal.decreases-named
decreases-named l = 5 * l.calls + 3

abbrev pub decreases-empty : goal.decreases-empty
decreases-empty l = 5 * l.calls + 2

abbrev pub decreases-operand : goal.decreases-operand
decreases-operand l = 5 * l.calls + 4

abbrev pub invariant-expression-loop-binary : goal.invariant-expression-loop-binary
invariant-expression-loop-binary l = record {
  steps : (k : ℕ) × (length l.rest ≤ k) × (parse l.source.count l.calls l.lowest (words l.source.text.now l.tokens) ≡ climb (parse l.source.count l.fewer) k l.lowest (view l.left.expr.value.kind) (words l.source.text.now l.rest));
  deep : l.left.depth ≡ depth (view l.left.expr.value.kind);
  less : length l.rest < length l.tokens;
}

abbrev pub decreases-expression-loop-binary : goal.decreases-expression-loop-binary
decreases-expression-loop-binary l = length l.rest

abbrev pub invariant-list-loop-behind : goal.invariant-list-loop-behind
invariant-list-loop-behind l = record {
  steps : (k : ℕ) × (length l.rest ≤ k) × (items (parse l.source.count l.calls) l.source.count l.close (words l.source.text.now l.tokens) ≡ up_to l.close (more_items (parse l.source.count l.calls) k (view_all l.all.items) (words l.source.text.now l.rest)));
  deep : l.depth ≡ depths (view_all l.all.items);
  less : length l.rest < length l.tokens;
}

abbrev pub decreases-list-loop-behind : goal.decreases-list-loop-behind
decreases-list-loop-behind l = length l.rest
