-- What is written between two states of a writer.
use Rattle.std.specs.Prelude.{ℕ, ◌≡◌, ◌++◌, Bool, true, false, List, string_bytes}
use Rattle.tokens.specs.Words.{Word}
use Rattle.tokens.specs.Spaced.{spaced_behind}
use Rattle.printing.specs.declared.writer.Writer.{Writer}
use Rattle.printing.specs.declared.print.Style.{Style}
use Rattle.printing.specs.declared.print.Style.TheVariants.{Few, All}

-- the text that there would be, were these words written next
abbrev pub text_with : Writer → List Word → List ℕ
text_with w ws = string_bytes w.out ++ spaced_behind w.last w.inside ws

-- whatever words are written next, the text is the same as if `front` of them had been written before
abbrev pub Writes : Writer → Writer → (List Word → List Word) → Type 0
Writes old new front = (rest : List Word) → text_with new rest ≡ text_with old (front rest)

-- whether every part that has operands stands in parentheses
abbrev pub is_all : Style → Bool
is_all Few = false
is_all All = true
