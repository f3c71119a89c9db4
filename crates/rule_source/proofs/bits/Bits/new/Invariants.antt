use Rattle.std.proofs.Common.{◌≡◌, ◌≤◌, length, map, take}
use Rattle.rule_file.specs.Claims.{bytes_of}
use Rattle.rule_source.proofs.bits.Bits.new.Given as goal

-- no more than five are read, and those that are read are the words of the first tokens
abbrev pub invariant-loop-token : goal.invariant-loop-token
invariant-loop-token l = record { few : length l.names.items ≤ 5; words : map (λ n. n.now) l.names.items ≡ map (λ t. bytes_of l.text t) (take l.token-index l.tokens) }
