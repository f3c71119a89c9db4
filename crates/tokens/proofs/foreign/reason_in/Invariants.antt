use Rattle.std.proofs.Common.{◌≡◌, length, map}
use Rattle.tokens.specs.Scan.{is_in}
use Rattle.tokens.proofs.foreign.reason_in.Given as goal

abbrev pub invariant-loop-table : goal.invariant-loop-table
invariant-loop-table l = is_in (map (λ k. k.0.now) l.table) l.word ≡ is_in (map (λ k. k.0.now) l.initial.table) l.word

abbrev pub decreases-loop-table : goal.decreases-loop-table
decreases-loop-table l = length l.table
