use Rattle.std.proofs.Common.{◌≡◌, ◌+◌, ◌<◌, [], ◌∷◌, ◌++◌, length, sym, ap, ◌∙◌, subst, append_assoc, arith, length-append}
use Rattle.claims.specs.Rows.{row}
use Rattle.row_claims.specs.Reading.{further}
use Rattle.row_judge.specs.Made.{part_of}
use Rattle.row_judge.specs.declared.made.Rows.TheVariants.{Without}
use Rattle.row_judge.proofs.MadeLaws.{put_alone, long_alone}
use Rattle.row_judge.proofs.made.put_part.Goals as goal

pub returns-in_err-put_in_row-in-With-clause-put : goal.returns-in_err-put_in_row-in-With-clause-put
returns-in_err-put_in_row-in-With-clause-put c = λ d e.
    rw c.from_residual.ensures
    (subst (λ r. 1024 < length c.args.out.now + length (row (part_of r c.args.sets d))) (sym c.in-With.is) (long_alone c.args.sets (length c.args.out.now) d c.args.body.now e c.in_err-put_in_row-in-With.ensures))

pub returns-in_ok-put_in_row-in-With-clause-put : goal.returns-in_ok-put_in_row-in-With-clause-put
returns-in_ok-put_in_row-in-With-clause-put c = λ d e.
    let (f, p) = c.in_ok-put_in_row-in-With.ensures in
    subst (λ r. c.put_in_row.new.out ≡ c.args.out.now ++ row (part_of r c.args.sets d)) (sym c.in-With.is) (put_alone c.args.sets d f c.args.out.now c.put_in_row.new.out c.args.body.now _ e p)

pub returns-in_err-put_in_row-in-Without-clause-put : goal.returns-in_err-put_in_row-in-Without-clause-put
returns-in_err-put_in_row-in-Without-clause-put c = λ d e.
    let i : c.push.new.self ≡ c.args.out.now ++ 4 ∷ [] = c.in_ok-push-in-Without.ensures.put in
    let l = long_alone c.args.sets (length c.push.new.self) d c.args.body.now e c.in_err-put_in_row-in-Without.ensures in
    let h : 1024 < length c.args.out.now + length (row (part_of Without c.args.sets d)) = omega (arith, l, ap length i, length-append c.args.out.now (4 ∷ [])) in
    rw c.from_residual-in_err-put_in_row-in-Without.ensures (subst (λ r. 1024 < length c.args.out.now + length (row (part_of r c.args.sets d))) (sym c.in-Without.is) h)

pub returns-in_ok-put_in_row-in-Without-clause-put : goal.returns-in_ok-put_in_row-in-Without-clause-put
returns-in_ok-put_in_row-in-Without-clause-put c = λ d e.
    let (f, p) = c.in_ok-put_in_row-in-Without.ensures in
    let i : c.push.new.self ≡ c.args.out.now ++ 4 ∷ [] = c.in_ok-push-in-Without.ensures.put in
    let q = put_alone c.args.sets d f c.push.new.self c.put_in_row-in-Without.new.out c.args.body.now _ e p in
    subst (λ r. c.put_in_row-in-Without.new.out ≡ c.args.out.now ++ row (part_of r c.args.sets d)) (sym c.in-Without.is)
    (q ∙ ap (λ m. m ++ row (further c.args.sets d)) i ∙ append_assoc c.args.out.now (4 ∷ []) (row (further c.args.sets d)))
