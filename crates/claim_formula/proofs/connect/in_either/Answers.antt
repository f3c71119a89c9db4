use Rattle.formulas.specs.Meaning.{members}
use Rattle.claim_formula.proofs.LyingLaws.{union_says}
use Rattle.claim_formula.proofs.connect.in_either.Goals as goal

pub returns : goal.returns
returns c e i = rw (c.in_ok-new.ensures.ok, c.in_ok-new-2.ensures.ok) (union_says (members c.args.g e) (members c.args.h e) i)
