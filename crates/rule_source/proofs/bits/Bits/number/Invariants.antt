use Rattle.std.proofs.Common.{◌≢◌, All, map, take}
use Rattle.rule_file.specs.Claims.{bytes_of}
use Rattle.rule_source.proofs.bits.Bits.number.Given as goal

-- none of the names before it is the word
abbrev pub invariant-loop-j : goal.invariant-loop-j
invariant-loop-j l = All (λ v. v ≢ bytes_of l.self.text.now l.token) (take l.j (map (λ n. n.now) l.self.names.items))
