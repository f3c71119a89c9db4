-- The tokens of a text, in the order in which they stand, and nothing but blanks and comments between them.
use Rattle.std.specs.Prelude.{ℕ, ◌<◌, ◌≤◌, IsTrue, List, [], ◌∷◌, length, slice_range}
use Rattle.tokens.specs.declared.token.Token.{Token}
use Rattle.tokens.specs.Gaps.{is_gap}
use Rattle.tokens.specs.Spelling.{Spells}

-- each token has at least one byte, and its bytes are what its kind says; before the first, which begins at `from` or behind, between two, and from the last up to `to` stand blanks and comments only
abbrev pub Covers : List ℕ → ℕ → List Token → ℕ → Type 0
Covers text from [] to = (from ≤ to) × (to ≤ length text) × IsTrue (is_gap (slice_range text from to))
Covers text from (t ∷ ts) to = (from ≤ t.span.start) × IsTrue (is_gap (slice_range text from t.span.start)) × (t.span.start < t.span.end) × Spells t.kind (slice_range text t.span.start t.span.end) × Covers text t.span.end ts to
