use Rattle.std.proofs.Common.{◌≢◌, All, take}
use Rattle.rule_file.specs.Claims.{bytes_of}
use Rattle.rule_file.proofs.names.stands_in.Given as goal

abbrev pub invariant-loop-other : goal.invariant-loop-other
invariant-loop-other l = All (λ other. bytes_of l.text other ≢ bytes_of l.text l.name) (take l.other-index l.others)
