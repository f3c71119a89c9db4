-- Relations of sets by their names.
use Rattle.std.specs.Prelude.{◌^◌, ◌<◌}
use Rattle.kinds.specs.Relations.{first, second}
use Rattle.kinds.specs.declared.relation.Relation.{Relation}

-- its sets' numbers are names
abbrev pub Named : Relation → Type 0
Named r = (first r < 2 ^ 32) × (second r < 2 ^ 32)
