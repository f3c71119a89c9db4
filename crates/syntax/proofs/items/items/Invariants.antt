use Rattle.std.proofs.Common.{◌≡◌, ◌≤◌, ℕ, length}
use Rattle.syntax.specs.Parsing.{parse}
use Rattle.tokens.specs.Words.{words}
use Rattle.syntax.specs.Items.{more_read, read_words, view_items}
use Rattle.syntax.proofs.items.items.Given as goal

abbrev pub invariant-loop-rest : goal.invariant-loop-rest
invariant-loop-rest l = record {
  steps : (k : ℕ) × (length l.rest ≤ k) × (read_words l.source.count l.source.open (words l.source.text.now l.tokens) ≡ more_read (parse l.source.count l.source.open) l.source.count k (view_items l.all.items) (words l.source.text.now l.rest));
  less : length l.rest ≤ length l.tokens;
}

abbrev pub decreases-loop-rest : goal.decreases-loop-rest
decreases-loop-rest l = length l.rest
