-- Tokens as words: what a text says, without where it says it.
use Rattle.std.specs.Prelude.{ℕ, ◌&&◌, if◌then◌else◌, nat_le, List, [], ◌∷◌, length, slice_range}
use Rattle.tokens.specs.declared.kind.Kind.{Kind}
use Rattle.tokens.specs.declared.token.Token.{Token}

-- a token: its kind and its bytes
pub data Word : Type 0 where
  word : Kind → List ℕ → Word

-- the bytes of a token, as far as they are in the text
abbrev pub bytes_of : List ℕ → Token → List ℕ
bytes_of text t = if nat_le t.span.start t.span.end && nat_le t.span.end (length text) then slice_range text t.span.start t.span.end else []

-- tokens as words
abbrev pub words : List ℕ → List Token → List Word
words text [] = []
words text (t ∷ ts) = word t.kind (bytes_of text t) ∷ words text ts
