-- What is found of a claim in lent memory: the length of its first word, that it holds of none, or that it is too large.
use Rattle.std.specs.Prelude.{◌≡◌, ℕ, ◌<◌, ◌≤◌, List, length, take}
use Rattle.words.specs.Words.{Word, Columns}
use Rattle.claims.specs.Claims.{C, Of}
use Rattle.claims.specs.Rows.{Claim}
use Rattle.claims.specs.Sizes.{Fits}
use Rattle.lengths.specs.Answer.{First}
use Rattle.workspace.specs.Floor.{Width, floor_words}
use Rattle.row_judge.specs.declared.finding.FirstWord.{FirstWord}
use Rattle.row_judge.specs.declared.finding.FirstWord.TheVariants.{Nothing, Long, TooLarge}

-- the claim that bytes s are does not hold of every word
abbrev pub NotAll : List ℕ → Type 0
NotAll s = (k : ℕ) (c : C) → Claim s k c → ((w : Word) → Columns k w → Of c w) → ⊥

-- so many work words are what the call asks for
abbrev pub Enough : List ℕ → ℕ → ℕ → Type 0
Enough s n w = (v : ℕ) → Width s v → floor_words v s n ≤ w

-- of the claim that bytes s are, with at most n classes told apart: its first word stands first in o
abbrev pub FindsFirst : List ℕ → ℕ → List ℕ → FirstWord → Type 0
FindsFirst s n o Nothing = (k : ℕ) (c : C) → Claim s k c → Fits k n c × ((w : Word) → Columns k w → Of c w → ⊥)
FindsFirst s n o (Long a) = (k : ℕ) (c : C) → Claim s k c → Fits k n c × First k c (take a o) × (a ≡ length (take a o)) × (a < n)
FindsFirst s n o TooLarge = (k : ℕ) (c : C) → Claim s k c → Fits k n c → ⊥
