-- How many places a set has, by a number.
use Rattle.std.specs.Prelude.{◌≡◌, ℕ, zero, suc, ◌+◌, ◌*◌, ◌<◌, Bool, true, cond}
use Rattle.words.specs.Words.{Sets}
use Rattle.kinds.specs.declared.multiple.Multiple.{Multiple}

-- a set without places from n on
abbrev pub Ends : (ℕ → Bool) → ℕ → Type 0
Ends s n = (i : ℕ) → s i ≡ true → i < n

-- how many of the first n places it has
abbrev pub places : (ℕ → Bool) → ℕ → ℕ
places s zero = 0
places s (suc n) = cond (s 0) 1 0 + places (λ i. s (suc i)) n

-- the set is finite, and has t times the modulus and the rest places, for some t
abbrev pub Counts : Multiple → Sets → Type 0
Counts m v = (n : ℕ) × (t : ℕ) × Ends (v m.set) n × (places (v m.set) n ≡ t * m.remainder.modulus + m.remainder.rest)
