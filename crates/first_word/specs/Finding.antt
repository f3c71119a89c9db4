-- What is found of a claim: its first word, that it holds of none, or that it is too large.
use Rattle.std.specs.Prelude.{ℕ, List}
use Rattle.words.specs.Words.{Word, Columns}
use Rattle.claims.specs.Claims.{C, Of}
use Rattle.claims.specs.Sizes.{Fits}
use Rattle.claims.specs.Rows.{Claim}
use Rattle.lengths.specs.Answer.{First as FirstWord}
use Rattle.first_word.specs.declared.first_word.Found.{Found}
use Rattle.first_word.specs.declared.first_word.Found.TheVariants.{Nothing, First, TooLarge}

-- of the claim that bytes s are, with at most n classes told apart
abbrev pub Finds : List ℕ → ℕ → Found → Type 0
Finds s n Nothing = (k : ℕ) (c : C) → Claim s k c → Fits k n c × ((w : Word) → Columns k w → Of c w → ⊥)
Finds s n (First w) = (k : ℕ) (c : C) → Claim s k c → Fits k n c × FirstWord k c w.items
Finds s n TooLarge = (k : ℕ) (c : C) → Claim s k c → Fits k n c → ⊥
