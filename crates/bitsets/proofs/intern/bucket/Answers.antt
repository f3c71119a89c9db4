use Rattle.std.proofs.Common.{◌%◌, sym, ap, ◌∙◌}
use Rattle.std.proofs.lemmas.Nat.{mod_below}
use Rattle.std.proofs.lemmas.List.{at_drop_all}
use Rattle.bitsets.specs.Intern.{hashed, bucket_of}
use Rattle.bitsets.proofs.intern.bucket.Goals as goal

pub returns : goal.returns
unfolding bucket_of
returns c =
    let e = at_drop_all (hashed c.loop-word.h) c.args.row.now c.loop-word.word-index c.loop-word-test.false in
    record { value = ap (λ h. h % c.args.n) (sym e ∙ c.loop-word.invariant.1); below = mod_below c.loop-word.h c.args.n c.requires }
