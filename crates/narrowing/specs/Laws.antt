-- What is proved of the sets that a claim mentions, for every claim.
use Rattle.std.specs.Prelude.{◌≡◌, ℕ, ◌≤◌, true, [], ◌∷◌, ◌++◌}
use Rattle.words.specs.Languages.{SameLeft}
use Rattle.words.specs.Words.{Word, bit}
use Rattle.claims.specs.Claims.{C, Of}
use Rattle.narrowing.specs.Mentioned.{mentions, widest}

pub record NarrowLaws : Type 0 where
  -- columns that differ only in sets that a claim does not mention leave the same of it
  pub same_column : (k : ℕ) (c : C) (u : Word) (a b : ℕ) → ((z : ℕ) → mentions c z ≡ true → bit z a ≡ bit z b) → SameLeft k (Of c) (u ++ (a ∷ [])) (u ++ (b ∷ []))
  -- no part mentions more sets than there are
  pub widest_fits : (k : ℕ) (c : C) → widest k c ≤ k
