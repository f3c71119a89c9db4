-- Where a word leads, column by column.
use Rattle.std.specs.Prelude.{ℕ, [], ◌∷◌}
use Rattle.words.specs.Words.{Word}

-- from s
abbrev pub run : {S : Type 0} → (S → ℕ → S) → S → Word → S
run step s [] = s
run step s (a ∷ w) = run step (step s a) w
