-- The subset construction: the automaton of the sets of live classes, and a memory in which they
-- are found.
use Rattle.std.specs.Prelude.{ℕ, ◌+◌, ◌<◌, Bool, List, Option}
use Rattle.automata.specs.Subsets.{step_set, start_set, accepts_set}
use Rattle.bitsets.specs.Bitrows.{member, Below}
use Rattle.bitsets.specs.Intern.{Interned}
use Rattle.worklist.specs.Search.{Automaton, Memory}
use Rattle.live.specs.Dead.{lives}
use Rattle.project.specs.declared.memory.Sets.{Sets}
use Rattle.project.specs.declared.projection.Projection.{Projection}
use Rattle.tables.specs.Cells.{accepts}
use Rattle.tables.specs.declared.cells.WordTable.{WordTable}
use Rattle.tables.specs.View.{moves}

-- the sets of live classes; a set accepts if one of its classes is completed
abbrev pub reached : WordTable → ℕ → Option ℕ → List ℕ → Automaton (ℕ → Bool)
reached t x dead completed = record {
  sets = t.sets;
  start = start_set (lives t.table.classes dead);
  step = step_set t.table.classes (moves t.table) (lives t.table.classes dead) x;
  accepts = accepts_set t.table.classes (accepts completed);
}

abbrev pub projected : Projection → Automaton (ℕ → Bool)
projected p = reached p.t p.x.0 p.dead p.completed.now

-- where its words begin, and where a column leads
abbrev pub start_of : Projection → ℕ → Bool
start_of p = (projected p).start

abbrev pub step_of : Projection → (ℕ → Bool) → ℕ → ℕ → Bool
step_of p = (projected p).step

-- m sets are interned, of classes of the part
pub record Held (p : Projection) (sets heads links buckets : List ℕ) (m : ℕ) : Type 0 where
  pub interned : Interned sets p.w m heads links buckets
  pub below : (j : ℕ) → j < m → Below p.t.table.classes (member sets p.w j)

abbrev pub memory : Projection → ℕ → List ℕ → List ℕ → List ℕ → List ℕ → Memory (ℕ → Bool)
memory p most sets heads links buckets = record { automaton = projected p; room = most + 1; at = member sets p.w; Holds = Held p sets heads links buckets }

abbrev pub sets_of : Sets → Memory (ℕ → Bool)
sets_of f = memory f.part f.most f.sets.now f.heads.now f.links.now f.buckets.now
