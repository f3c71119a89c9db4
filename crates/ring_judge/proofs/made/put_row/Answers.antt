use Rattle.std.proofs.Common.{◌≡◌, [], ◌∷◌, ◌++◌, length, ap, ◌∙◌, arith}
use Rattle.row_claims.specs.Bytes.{row_bytes}
use Rattle.ring_claims.specs.Reading.{in_ring}
use Rattle.ring_judge.proofs.MadeLaws.{behind_first, put_alone, long_alone}
use Rattle.ring_judge.proofs.made.put_row.Goals as goal

pub returns-in_err-put_in_ring-clause-made : goal.returns-in_err-put_in_ring-clause-made
returns-in_err-put_in_ring-clause-made c = λ d f.
    let i : c.push.new.self ≡ c.args.sets ∷ [] = c.in_ok-push.ensures.put ∙ ap (λ o. o ++ (c.args.sets ∷ [])) c.new-out.ensures in
    let l = long_alone (length c.push.new.self) d _ (behind_first c.args.claim.now c.args.sets d f) c.in_err-put_in_ring.ensures in
    rw c.from_residual-in_err-put_in_ring.ensures (omega (arith, l, ap length i))

pub returns-clause-made : goal.returns-clause-made
returns-clause-made c = λ d f.
    let i : c.push.new.self ≡ c.args.sets ∷ [] = c.in_ok-push.ensures.put ∙ ap (λ o. o ++ (c.args.sets ∷ [])) c.new-out.ensures in
    let (e, p) = c.in_ok-put_in_ring.ensures in
    put_alone d e c.push.new.self c.put_in_ring.new.out _ _ (behind_first c.args.claim.now c.args.sets d f) p ∙ ap (λ o. o ++ row_bytes (in_ring d)) i
