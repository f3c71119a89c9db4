use Rattle.std.proofs.Common.{◌≡◌, ◌+◌, length, false}
use Rattle.tokens.specs.Gaps.{gap_len}
use Rattle.tokens.proofs.gap.blanks.Given as goal

abbrev pub invariant-loop-rest : goal.invariant-loop-rest
invariant-loop-rest l = record {
  counted : l.count + gap_len l.comment l.rest ≡ gap_len false l.bytes;
  whole : l.count + length l.rest ≡ length l.bytes;
}

abbrev pub decreases-loop-rest : goal.decreases-loop-rest
decreases-loop-rest l = length l.rest
