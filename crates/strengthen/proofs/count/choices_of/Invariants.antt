use Rattle.std.proofs.Common.{◌≡◌, ℕ, suc, ◌<◌, ◌≤◌, length, get_or}
use Rattle.strengthen.specs.Count.{choices}
use Rattle.strengthen.proofs.count.choices_of.Given as goal

abbrev pub invariant-loop-m : goal.invariant-loop-m
invariant-loop-m l = record {
  long : length l.at_most ≡ 9;
  low : (j : ℕ) → j < l.m → get_or l.at_most j 0 ≡ choices (suc l._i) j;
  high : (j : ℕ) → l.m ≤ j → j < 9 → get_or l.at_most j 0 ≡ choices l._i j;
  fewer : (k : ℕ) → l.m ≡ suc k → l.fewer ≡ choices l._i k;
}

abbrev pub invariant-loop-i : goal.invariant-loop-i
invariant-loop-i l = record {
  long : length l.at_most ≡ 9;
  each : (j : ℕ) → j < 9 → get_or l.at_most j 0 ≡ choices l._i j;
}
