-- The sets that a claim mentions, and the most that any part of it does.
use Rattle.std.specs.Prelude.{ℕ, Bool, ◌&&◌, ◌||◌, not, max, ◌==◌}
use Rattle.kinds.specs.Relations.{first, second}
use Rattle.kinds.specs.declared.atom.Atom.{Atom}
use Rattle.kinds.specs.declared.atom.Atom.TheVariants.{Related, Counted}
use Rattle.claims.specs.Claims.{C, atom, not1, and1, some}
use Rattle.narrowing.specs.Columns.{size}

-- a claim without parts mentions the sets that it is about
abbrev pub named : Atom → ℕ → Bool
named (Related r) z = z == first r || z == second r
named (Counted m) z = z == m.set

-- of no other sets does a claim depend; under some x, set x is another
abbrev pub mentions : C → ℕ → Bool
mentions (atom a) z = named a z
mentions (not1 c) z = mentions c z
mentions (and1 c d) z = mentions c z || mentions d z
mentions (some x c) z = not (z == x) && mentions c z

-- the most sets that any part mentions, of the first k
abbrev pub widest : ℕ → C → ℕ
widest k (atom a) = size k (mentions (atom a))
widest k (not1 c) = widest k c
widest k (and1 c d) = max (size k (mentions (and1 c d))) (max (widest k c) (widest k d))
widest k (some x c) = max (size k (mentions (some x c))) (widest k c)
