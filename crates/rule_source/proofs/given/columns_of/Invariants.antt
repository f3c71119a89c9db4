use Rattle.std.proofs.Common.{take}
use Rattle.std.specs.List.{AllZip}
use Rattle.rule_source.specs.Given.{IsModule}
use Rattle.rule_source.proofs.given.columns_of.Given as goal

-- the columns of the first modules
abbrev pub invariant-loop-names : goal.invariant-loop-names
invariant-loop-names l = AllZip (IsModule l.bits) (take l.names-index l.modules) l.columns.items
