use Rattle.std.proofs.Common.{◌≡◌, ◌%◌, ◌^◌, length, map, take}
use Rattle.row_judge.proofs.modules.write_modules.Given as goal

abbrev pub invariant-loop-i : goal.invariant-loop-i
invariant-loop-i l = record {
  mark_is : l.mark ≡ 2 ^ l.bits;
  same : length l.out ≡ length l.marked;
  so_far : take l.i l.out ≡ map (λ a. a % 2 ^ l.bits) (take l.i l.marked);
}
