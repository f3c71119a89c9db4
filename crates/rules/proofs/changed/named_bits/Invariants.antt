use Rattle.std.proofs.Common.{◌≡◌, suc, ◌+◌}
use Rattle.formulas.specs.Names.{names}
use Rattle.rules.specs.Changed.{passing, has_group}
use Rattle.rules.proofs.changed.named_bits.Given as goal

-- the bits below j that are named
abbrev pub invariant-loop-j : goal.invariant-loop-j
invariant-loop-j l = l.found.items ≡ passing (λ j. has_group (names l.formula) (suc l.bits + j)) l.j
