-- The words of a text: the longest that it begins with, one after the other, with blanks and comments between them.
use Rattle.std.specs.Prelude.{ℕ, zero, suc, Bool, true, false, if◌then◌else◌, nat_eq, map, unwrap_or, List, [], ◌∷◌, length, take, drop, Option, Some, None}
use Rattle.std.specs.List.{prefix_len, starts_with}
use Rattle.std.specs.Str.{bytes_eq}
use Rattle.tokens.specs.declared.kind.Kind.{Kind}
use Rattle.tokens.specs.declared.kind.Kind.TheVariants as kind
use Rattle.tokens.specs.declared.word.TheConstants.{KEYWORDS}
use Rattle.tokens.specs.declared.sign.TheConstants.{SIGNS}
use Rattle.tokens.specs.declared.foreign.TheConstants.{FOREIGN}
use Rattle.tokens.specs.Gaps.{gap_len}
use Rattle.tokens.specs.Spelling.{is_digit, is_letter, in_name}
use Rattle.tokens.specs.Words.{Word, word}

-- the entries of the code's tables, without what holds them
abbrev pub keywords : List (List ℕ × Kind)
keywords = map (λ k. (k.0.now, k.1)) KEYWORDS

abbrev pub foreign : List (List ℕ)
foreign = map (λ k. k.0.now) FOREIGN

abbrev pub signs : List (List ℕ × Kind)
signs = map (λ k. (k.0.now, k.1)) SIGNS

-- the kind that a table has for a word
abbrev pub kind_in : List (List ℕ × Kind) → List ℕ → Option Kind
kind_in [] d = None
kind_in (e ∷ t) d = if bytes_eq e.0 d then Some e.1 else kind_in t d

abbrev pub is_in : List (List ℕ) → List ℕ → Bool
is_in [] d = false
is_in (e ∷ t) d = if bytes_eq e d then true else is_in t d

unfoldable pub is_foreign : List ℕ → Bool
is_foreign d = is_in foreign d

-- a keyword, a word that only MONA has, or a name
unfoldable pub word_kind : List ℕ → Kind
word_kind d = unwrap_or (kind_in keywords d) (if is_foreign d then kind.Foreign else kind.Name)

-- the kind and the length of the first sign of a table that a text begins with
abbrev pub sign_in : List (List ℕ × Kind) → List ℕ → Option (Kind × ℕ)
sign_in [] s = None
sign_in (e ∷ t) s = if starts_with nat_eq s e.0 then Some (e.1, length e.0) else sign_in t s

unfoldable pub sign_at : List ℕ → Option (Kind × ℕ)
sign_at s = sign_in signs s

abbrev pub number_front : List ℕ → Option (Kind × ℕ)
number_front s = Some (kind.Number, prefix_len is_digit s)

abbrev pub word_front : List ℕ → Option (Kind × ℕ)
word_front s = Some (word_kind (take (prefix_len in_name s) s), prefix_len in_name s)

-- the kind and the length of what a text begins with: a number, a word or a sign, the longest
abbrev pub front : List ℕ → Option (Kind × ℕ)
front [] = None
front (b ∷ s) = if is_digit b then number_front (b ∷ s) else if is_letter b then word_front (b ∷ s) else sign_at (b ∷ s)

-- a text without the blanks and comments at its front
abbrev pub behind_gap : List ℕ → List ℕ
behind_gap s = drop (gap_len false s) s

abbrev pub with_first : Word → Option (List Word) → Option (List Word)
with_first w None = None
with_first w (Some ws) = Some (w ∷ ws)

-- the word that a text begins with, and then what is told of the text behind it
abbrev pub first_then : Option (Kind × ℕ) → List ℕ → (List ℕ → Option (List Word)) → Option (List Word)
first_then None s f = None
first_then (Some r) s f = with_first (word r.0 (take r.1 s)) (f (behind_gap (drop r.1 s)))

-- the words of a text that begins with a word, n at most
abbrev pub scan_from : ℕ → List ℕ → Option (List Word)
scan_from n [] = Some []
scan_from zero (b ∷ s) = None
scan_from (suc n) (b ∷ s) = first_then (front (b ∷ s)) (b ∷ s) (scan_from n)

-- the words of a text, if it has no byte with which none begins; there are no more of them than bytes
abbrev pub scan : List ℕ → Option (List Word)
scan s = scan_from (length s) (behind_gap s)
