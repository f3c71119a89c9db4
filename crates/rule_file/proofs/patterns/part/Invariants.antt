use Rattle.std.proofs.Common.{◌≡◌, ◌++◌, All, length}
use Rattle.std.specs.List.{flat_map}
use Rattle.rule_file.specs.Kinds.{IsTerm}
use Rattle.rule_file.specs.Written.{term_tokens}
use Rattle.rule_file.proofs.patterns.part.Given as goal

abbrev pub invariant-loop-all : goal.invariant-loop-all
invariant-loop-all l = record { words : flat_map term_tokens l.all.items ++ l.rest ≡ l.tokens; terms : All IsTerm l.all.items }

abbrev pub decreases-loop-all : goal.decreases-loop-all
decreases-loop-all l = length l.rest
