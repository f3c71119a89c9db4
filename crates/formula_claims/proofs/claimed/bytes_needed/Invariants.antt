use Rattle.std.proofs.Common.{◌≡◌, ◌<◌, ◌+◌, ◌-◌, ◌^◌, true, min, drop}
use Rattle.formula_claims.specs.Lengths.{formula_length, places_length}
use Rattle.formula_claims.proofs.claimed.bytes_needed.Given as goal

-- what is counted with what is still to come is all
abbrev pub invariant-loop-name : goal.invariant-loop-name
invariant-loop-name l = record {
  in_range : l.needed < 2 ^ 64;
  counted : min (l.needed + places_length l.formula (drop l.name-index l.names)) (2 ^ 64 - 1) ≡ min (formula_length l.formula true + 1 + places_length l.formula l.names) (2 ^ 64 - 1);
}
