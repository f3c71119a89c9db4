use Rattle.std.proofs.Common.{◌≢◌, All, codes, take}
use Rattle.rule_file.specs.Claims.{bytes_of}
use Rattle.rule_file.proofs.names.check_formula_names.Given as goal

abbrev pub invariant-loop-name : goal.invariant-loop-name
invariant-loop-name l = All (λ t. bytes_of l.text t ≢ codes "last") (take l.name-index l.names)
