use Rattle.std.proofs.Common.{◌≡◌}
use Rattle.rules.specs.Changed.{passing, is_needed}
use Rattle.rules.proofs.changed.changed_named.Given as goal

-- the changed bits below j
abbrev pub invariant-loop-j : goal.invariant-loop-j
invariant-loop-j l = l.found.items ≡ passing (is_needed l.patterns l.names l.table) l.j
