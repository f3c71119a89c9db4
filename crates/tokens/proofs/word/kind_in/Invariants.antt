use Rattle.std.proofs.Common.{◌≡◌, length, map}
use Rattle.tokens.specs.Scan.{kind_in}
use Rattle.tokens.proofs.word.kind_in.Given as goal

abbrev pub invariant-loop-table : goal.invariant-loop-table
invariant-loop-table l = kind_in (map (λ k. (k.0.now, k.1)) l.table) l.word ≡ kind_in (map (λ k. (k.0.now, k.1)) l.initial.table) l.word

abbrev pub decreases-loop-table : goal.decreases-loop-table
decreases-loop-table l = length l.table
