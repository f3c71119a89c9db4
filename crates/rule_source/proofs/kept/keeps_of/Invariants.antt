use Rattle.std.proofs.Common.{◌≡◌, All, map, take}
use Rattle.rule_source.specs.Kept.{Keeps, kept_in}
use Rattle.rule_source.proofs.kept.keeps_of.Given as goal

-- what the first lines claim to be kept
abbrev pub invariant-loop-line : goal.invariant-loop-line
invariant-loop-line l = record { all : map (λ k. k.statement.now) l.keeps.items ≡ kept_in (take l.line-index l.source.file.lines.items); each : All (Keeps l.source) l.keeps.items }
