use Rattle.std.proofs.Common.{◌≡◌, ◌≤◌, ◌∷◌, arith}
use Rattle.std.proofs.lemmas.Grind.{common_steps}
use Rattle.ring_claims.specs.Bytes.{ring_bytes}
use Rattle.ring_claims.specs.Encoded.{sets_needed, bytes_needed}
use Rattle.ring_claims.specs.Trees.{said}
use Rattle.ring_claims.proofs.EncodedLaws.{encoded}
use Rattle.ring_claims.proofs.encode.encode.Goals as goal

pub returns : goal.returns
returns c =
    let t = said c.args.claim.now in
    let same : c.max-k.result ≡ sets_needed c.args.least t = omega arith in
    let few : sets_needed c.args.least t ≤ 12 = omega arith in
    let short : bytes_needed t ≤ 1024 = omega arith in
    let bytes : c.write.new.out.items ≡ c.max-k.result ∷ ring_bytes t = grind (arith, common_steps) in
    let all : c.write.new.out.items ≡ sets_needed c.args.least t ∷ ring_bytes t = grind (arith, bytes, same) in
    encoded c.args.least t c.write.new.out.items few short all
