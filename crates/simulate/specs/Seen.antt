-- What a module of a given row sees, in the theory's words.
use Rattle.std.specs.Prelude.{ℕ, zero, suc, ◌+◌, ◌*◌, Bool, cond, Option, Some, None}
use Rattle.std.proofs.Math.Option as theory
use Rattle.rows.specs.Views.{View, seen}
use Rattle.simulate.specs.declared.seen.Seen.{Seen}

abbrev pub place_of : Option ℕ → theory.Option ℕ
place_of None = theory.none
place_of (Some a) = theory.some a

abbrev pub view_of : Seen → View
view_of s = seen (place_of s.left) s.own (place_of s.right)

-- so many bits of f, from bit j on, as a column
abbrev pub packed : ℕ → (ℕ → Bool) → ℕ → ℕ
packed zero f j = 0
packed (suc n) f j = cond (f j) 1 0 + 2 * packed n f (suc j)
