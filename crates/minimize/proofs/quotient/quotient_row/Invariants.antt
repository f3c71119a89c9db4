use Rattle.std.proofs.Common.{◌≡◌, ℕ, ◌<◌, get_or}
use Rattle.tables.specs.Cells.{entry}
use Rattle.minimize.proofs.quotient.quotient_row.Given as goal

-- the columns before a are written, and the other rows as they were
abbrev pub invariant-loop-a : goal.invariant-loop-a
invariant-loop-a l = ((b : ℕ) → b < l.a → entry l.rows l.t.width l.to.0 b ≡ get_or l.cls (entry l.t.rows.now l.t.width l.from.0 b) 0) × ((p b : ℕ) → (p ≡ l.to.0 → ⊥) → b < l.t.width → entry l.rows l.t.width p b ≡ entry l.initial.rows l.t.width p b)
