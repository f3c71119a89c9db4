use Rattle.std.proofs.Common.{◌≡◌, ◌≤◌, ◌<◌, ℕ, length, map}
use Rattle.std.specs.List.{range_with_len}
use Rattle.rule_source.specs.Effects.{bit_after, changes, said}
use Rattle.rule_source.proofs.lines.values.Given as goal

-- the bits up to here, of which no two changes name one
abbrev pub invariant-loop-j : goal.invariant-loop-j
invariant-loop-j l = record {
  each : l.values.items ≡ map (bit_after l.bits l.effects) (range_with_len 0 l.j);
  apart : (i : ℕ) → i < l.j → length (said l.bits i (changes l.effects)) ≤ 1;
}
