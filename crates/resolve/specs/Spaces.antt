-- Where the places of a text are, and which place stands so many steps from another.
use Rattle.std.specs.Prelude.{ℕ, zero, suc, ◌+◌, ◌-◌, min, Bool, cond, List, Option, Some, None}
use Rattle.claims.specs.Claims.{has}
use Rattle.formulas.specs.Sets.{highest}

-- all numbers are places; or those of a row are, behind the last of which none comes; or those of a ring, where behind the last one the first comes again
pub data Space : Type 0 where
  everywhere : Space
  the_row : List Bool → Space
  the_ring : List Bool → Space

-- the places of the row or of the ring
abbrev pub bounds : Space → Option (List Bool)
bounds everywhere = None
bounds (the_row u) = Some u
bounds (the_ring u) = Some u

-- the places of the ring alone
abbrev pub around : Space → Option (List Bool)
around everywhere = None
around (the_row u) = None
around (the_ring u) = Some u

-- one step further on a ring: to the next place, and where that is none of the ring's, to place 0
abbrev pub next : List Bool → ℕ → ℕ
next u i = cond (has u (suc i)) (suc i) 0

-- one step back on a ring: from place 0 to the last place, from another to the one before; and from a number behind the ring to its last place too
abbrev pub previous : List Bool → ℕ → ℕ
previous u zero = highest u
previous u (suc i) = min i (highest u)

-- so many steps
abbrev pub steps : (ℕ → ℕ) → ℕ → ℕ → ℕ
steps f zero i = i
steps f (suc n) i = f (steps f n i)

-- the place n further on: on a ring, n steps round it
abbrev pub forward : Option (List Bool) → ℕ → ℕ → ℕ
forward None n i = i + n
forward (Some u) n i = steps (next u) n i

-- the place n before: on a ring, n steps back round it; elsewhere not before place 0
abbrev pub back : Option (List Bool) → ℕ → ℕ → ℕ
back None n i = i - n
back (Some u) n i = steps (previous u) n i
