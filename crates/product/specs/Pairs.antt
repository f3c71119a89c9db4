-- The product of two tables: a class for each pair of classes that a word leads to.
use Rattle.std.specs.Prelude.{◌≡◌, ◌+◌, Bool, ◌&&◌}
use Rattle.automata.specs.Product.{Pair, pair, left, right, step_pair}
use Rattle.worklist.specs.Search.{Automaton, Memory}
use Rattle.product.specs.declared.memory.Pairs.{Pairs}
use Rattle.tables.specs.declared.cells.Class.{Class}
use Rattle.tables.specs.declared.cells.WordTable.{WordTable}
use Rattle.tables.specs.Numbering.{pair_at, Numbered}
use Rattle.tables.specs.View.{moves, accepting}

-- whether both classes of a pair accept
abbrev pub both_accept : WordTable → WordTable → Pair → Bool
both_accept a b p = accepting a.table (left p) && accepting b.table (right p)

-- the pairs of classes of two tables, each going its own way
abbrev pub both : WordTable → WordTable → Automaton Pair
both a b = record { sets = a.sets; start = pair 0 0; step = step_pair (moves a.table) (moves b.table); accepts = both_accept a b }

-- the two classes are those of a pair
abbrev pub IsPair : Class × Class → Pair → Type 0
IsPair c p = p ≡ pair c.0.0 c.1.0

-- a memory of pairs: those that are found, with their numbers
abbrev pub pairs_of : Pairs → Memory Pair
pairs_of f = record {
  automaton = both f.left f.right;
  room = f.most + 1;
  at = pair_at f.lefts.now f.rights.now;
  Holds = Numbered f.left.table.classes f.right.table.classes f.lefts.now f.rights.now f.index.now;
}
