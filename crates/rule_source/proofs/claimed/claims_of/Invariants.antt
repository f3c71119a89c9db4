use Rattle.std.proofs.Common.{◌≡◌, All, map, take}
use Rattle.rule_source.specs.Claimed.{claims_in}
use Rattle.rule_source.specs.Asking.{Asks}
use Rattle.rule_source.proofs.claimed.claims_of.Given as goal

-- the claims of the first lines
abbrev pub invariant-loop-line : goal.invariant-loop-line
invariant-loop-line l = record { all : map (λ c. c.statement.now) l.claims.items ≡ claims_in (take l.line-index l.source.file.lines.items); each : All (Asks l.source) l.claims.items }
