use Rattle.std.proofs.Common.{◌≡◌, take}
use Rattle.rule_file.specs.Claims.{claim_names}
use Rattle.rule_file.proofs.names.names_of.Given as goal

abbrev pub invariant-loop-line : goal.invariant-loop-line
invariant-loop-line l = l.names.items ≡ claim_names (take l.line-index l.lines)
