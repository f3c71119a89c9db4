use Rattle.std.proofs.Common.{◌≡◌, length, map}
use Rattle.tokens.specs.Scan.{sign_in}
use Rattle.tokens.proofs.sign.sign_in.Given as goal

abbrev pub invariant-loop-table : goal.invariant-loop-table
invariant-loop-table l = sign_in (map (λ k. (k.0.now, k.1)) l.table) l.text ≡ sign_in (map (λ k. (k.0.now, k.1)) l.initial.table) l.text

abbrev pub decreases-loop-table : goal.decreases-loop-table
decreases-loop-table l = length l.table
