use Rattle.std.proofs.Common.{◌≡◌, ◌++◌, length}
use Rattle.std.specs.List.{flat_map}
use Rattle.rule_file.specs.Written.{joined_tokens}
use Rattle.rule_file.proofs.modules.joined.Given as goal

abbrev pub invariant-loop-all : goal.invariant-loop-all
invariant-loop-all l = flat_map joined_tokens l.all.items ++ l.rest ≡ l.tokens

abbrev pub decreases-loop-all : goal.decreases-loop-all
decreases-loop-all l = length l.rest
