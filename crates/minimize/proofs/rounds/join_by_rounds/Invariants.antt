use Rattle.std.proofs.Common.{◌≡◌, ℕ, ◌-◌, ◌<◌, get_or}
use Rattle.tables.specs.Cells.{accepts, entry}
use Rattle.minimize.proofs.RoundsLaws.{Coarse, Refined}
use Rattle.minimize.proofs.rounds.join_by_rounds.Given as goal

-- a round begins with anew as cls, which parts no classes that are alike
abbrev pub invariant-refine : goal.invariant-refine
invariant-refine l = ((q : ℕ) → q < l.t.table.classes → get_or l.anew q 0 ≡ get_or l.cls q 0) × Coarse l.t.sets l.t.table.classes (entry l.t.table.rows.now l.t.table.width) (accepts l.t.table.accept.now) (λ q. get_or l.cls q 0) (λ i. get_or l.firsts i 0) l.count

-- every round but the last makes more parts
abbrev pub decreases-refine : goal.decreases-refine
decreases-refine l = l.t.table.classes - l.count

-- anew is cls split by the columns so far
abbrev pub invariant-loop-number : goal.invariant-loop-number
invariant-loop-number l = Coarse l.t.sets l.t.table.classes (entry l.t.table.rows.now l.t.table.width) (accepts l.t.table.accept.now) (λ q. get_or l.anew q 0) (λ i. get_or l.firsts i 0) l.count × Refined l.t.table.classes (entry l.t.table.rows.now l.t.table.width) (λ q. get_or l.cls q 0) l.number (λ q. get_or l.anew q 0)
