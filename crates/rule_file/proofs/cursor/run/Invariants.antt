use Rattle.std.proofs.Common.{◌≡◌, ◌++◌, All, length}
use Rattle.rule_file.proofs.cursor.run.Given as goal

abbrev pub invariant-loop-token : goal.invariant-loop-token
invariant-loop-token l = record { words : l.all.items ++ l.rest ≡ l.tokens; kinds : All (λ t. t.kind ≡ l.kind) l.all.items }

abbrev pub decreases-loop-token : goal.decreases-loop-token
decreases-loop-token l = length l.rest
