use Rattle.std.proofs.Common.{◌≡◌, ◌++◌, map, string_bytes, length}
use Rattle.claim_report.proofs.declared.push_names.Given as goal

abbrev pub invariant-loop-rest : goal.invariant-loop-rest
invariant-loop-rest l = map (λ n. n.now) l.all.items ++ map (λ x. string_bytes x.text) l.rest ≡ map (λ n. n.now) l.fn.all.items ++ map (λ x. string_bytes x.text) l.names

abbrev pub decreases-loop-rest : goal.decreases-loop-rest
decreases-loop-rest l = length l.rest
