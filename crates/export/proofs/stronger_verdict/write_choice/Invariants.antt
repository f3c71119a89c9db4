use Rattle.std.proofs.Common.{◌≡◌, length, map, take}
use Rattle.export.specs.StrongerVerdict.{as_written}
use Rattle.export.proofs.stronger_verdict.write_choice.Given as goal

abbrev pub invariant-loop-i : goal.invariant-loop-i
invariant-loop-i l = record {
  same : length l.out ≡ length l.choice;
  so_far : take l.i l.out ≡ map as_written (take l.i l.choice);
}
