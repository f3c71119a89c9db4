use Rattle.std.proofs.Common.{◌≡◌, ◌^◌, ◌<◌, take}
use Rattle.words.specs.Runs.{run}
use Rattle.minimal.specs.View.{states, leads}
use Rattle.rows.specs.RowClaims.{marked}
use Rattle.strengthen.proofs.table.accepts_row.Given as goal

-- the state is where the first modules lead
abbrev pub invariant-loop-i : goal.invariant-loop-i
invariant-loop-i l = record {
  mark_is : l.mark ≡ 2 ^ l.bits;
  below : l.q < states l.automaton;
  so_far : l.q ≡ run (leads l.automaton) 0 (marked l.bits (take l.i l.row));
}
