use Rattle.std.proofs.Common.{◌≡◌, map, take}
use Rattle.std.specs.String.{string_bytes}
use Rattle.rule_source.proofs.bits.Bits.names_now.Given as goal

-- the names of the bits up to here
abbrev pub invariant-loop-name : goal.invariant-loop-name
invariant-loop-name l = map (λ s. string_bytes s) l.all.items ≡ map (λ n. n.now) (take l.name-index l.self.names.items)
