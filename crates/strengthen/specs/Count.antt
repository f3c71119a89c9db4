-- How many choices there are.
use Rattle.std.specs.Prelude.{ℕ, zero, suc, ◌+◌}

-- of at most m of n things: those without the last one, and with it those of one fewer of the others
abbrev pub choices : ℕ → ℕ → ℕ
choices n zero = 1
choices zero (suc m) = 1
choices (suc n) (suc m) = choices n (suc m) + choices n m
