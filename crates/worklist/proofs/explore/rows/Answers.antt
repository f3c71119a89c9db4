use Rattle.std.proofs.Common.{refl, arith}
use Rattle.worklist.proofs.SearchLaws.{going_start}
use Rattle.worklist.proofs.explore.rows.Goals as goal

pub loop-i-init : goal.loop-i-init
loop-i-init g c = (
  omega arith,
  record {
    more = omega arith;
    same = record { automaton = c.begin.ensures.automaton; shape = refl; rows = refl; accept = refl };
    going = going_start c.begin.ensures c.requires.sets c.requires.some c.requires.room;
  },
)
