use Rattle.std.proofs.Common.{◌≤◌, length, ◌-◌}
use Rattle.tokens.specs.Covering.{Covers}
use Rattle.tokens.proofs.TokensLaws.{Scanned}
use Rattle.tokens.proofs.token.tokens.Given as goal

abbrev pub invariant-loop-at : goal.invariant-loop-at
invariant-loop-at l = record { within : l.at ≤ length l.text; covers : Covers l.text 0 l.all.items l.at; scanned : Scanned l.text l.all.items l.at }

abbrev pub decreases-loop-at : goal.decreases-loop-at
decreases-loop-at l = length l.text - l.at
