use Rattle.std.proofs.Common.{◌⊎◌, drop}
use Rattle.formulas.specs.declared.name.Name.{Name}
use Rattle.formulas.specs.Names.{Among}
use Rattle.formula_claims.proofs.claimed.unlisted.Given as goal

-- each name is listed or still to come
abbrev pub invariant-loop-name : goal.invariant-loop-name
invariant-loop-name l = (x : Name) → Among x l.free → Among x (drop l.name-index l.free) ⊎ Among x l.names
