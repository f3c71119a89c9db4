use Rattle.std.proofs.Common.{◌≡◌, ◌≤◌, ◌<◌, ℕ, length}
use Rattle.syntax.specs.Parsing.{more_names, names_at}
use Rattle.tokens.specs.Words.{words}
use Rattle.syntax.specs.Views.{names_of}
use Rattle.syntax.proofs.source.names.Given as goal

abbrev pub invariant-loop-behind : goal.invariant-loop-behind
invariant-loop-behind l = record {
  steps : (k : ℕ) × (length l.rest ≤ k) × (names_at l.source.count (words l.source.text.now l.tokens) ≡ more_names k (names_of l.all.items) (words l.source.text.now l.rest));
  less : length l.rest < length l.tokens;
}

abbrev pub decreases-loop-behind : goal.decreases-loop-behind
decreases-loop-behind l = length l.rest
