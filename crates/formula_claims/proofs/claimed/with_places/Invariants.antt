use Rattle.std.proofs.Common.{◌≡◌, drop}
use Rattle.translation.specs.Settles.{singles}
use Rattle.claims.specs.Trees.{said}
use Rattle.formula_claims.specs.Listed.{listed}
use Rattle.formula_claims.proofs.claimed.with_places.Given as goal

-- the claim with what is still to come is all
abbrev pub invariant-loop-name : goal.invariant-loop-name
invariant-loop-name l = singles (listed l.names) l.formula l.names (said l.initial.whole.value) ≡ singles (listed l.names) l.formula (drop l.name-index l.names) (said l.whole.value)
