use Rattle.std.proofs.Common.{◌≡◌, ◌≤◌, ℕ, [], ◌∷◌, length}
use Rattle.tokens.specs.Words.{words}
use Rattle.syntax.specs.Items.{more_parameters, view_parameter, view_parameters}
use Rattle.syntax.proofs.items.further.Given as goal

abbrev pub invariant-loop-behind : goal.invariant-loop-behind
invariant-loop-behind l = record {
  steps : (k : ℕ) × (length l.rest ≤ k) × (more_parameters l.source.count l.fn.first.sort (view_parameter l.fn.first ∷ []) (words l.source.text.now l.tokens) ≡ more_parameters k l.sort (view_parameters l.all.items) (words l.source.text.now l.rest));
  less : length l.rest ≤ length l.tokens;
}

abbrev pub decreases-loop-behind : goal.decreases-loop-behind
decreases-loop-behind l = length l.rest
