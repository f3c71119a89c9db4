use Rattle.std.proofs.Common.{◌≡◌, map, take}
use Rattle.rule_source.specs.Effects.{AllNameOnce, table_in}
use Rattle.rule_source.specs.Formulas.{AreHelpers, AreLimits, AreStarts}
use Rattle.rule_source.specs.Given.{AreRows}
use Rattle.rule_source.specs.Patterns.{allowed_in}
use Rattle.rule_source.proofs.source.reading_of.Given as goal

-- what the first lines say
abbrev pub invariant-loop-line : goal.invariant-loop-line
invariant-loop-line l = record {
  patterns : l.reading.allowed.items ≡ allowed_in l.bits (take l.line-index l.lines);
  limits : AreLimits l.bits (take l.line-index l.lines) l.reading.limits.items;
  starts : AreStarts l.bits (take l.line-index l.lines) l.reading.starts.items;
  helpers : AreHelpers l.bits (take l.line-index l.lines) l.reading.helpers.items;
  lines : map (λ p. p.0) l.reading.table.items ≡ table_in l.bits (take l.line-index l.lines);
  once : AllNameOnce l.bits (take l.line-index l.lines);
  rows : AreRows l.bits (take l.line-index l.lines) l.reading.rows.items;
}
