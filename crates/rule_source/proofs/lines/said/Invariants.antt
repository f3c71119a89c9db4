use Rattle.std.proofs.Common.{◌≡◌, ◌++◌, take}
use Rattle.std.specs.Option.{option_to_list}
use Rattle.rule_source.specs.Effects.{said}
use Rattle.rule_source.proofs.lines.said.Given as goal

-- what the first changes say
abbrev pub invariant-loop-change : goal.invariant-loop-change
invariant-loop-change l = option_to_list l.said ≡ option_to_list l.fn.before ++ said l.bits l.j (take l.change-index l.changes)
