use Rattle.std.proofs.Common.{◌≡◌, ◌++◌, drop}
use Rattle.formulas.specs.Names.{without}
use Rattle.formulas.proofs.free.push_without.Given as goal

-- what is put there with what is still to come is all
abbrev pub invariant-loop-name : goal.invariant-loop-name
invariant-loop-name l = l.found.items ++ without l.bound (drop l.name-index l.from) ≡ l.initial.found.items ++ without l.bound l.from
