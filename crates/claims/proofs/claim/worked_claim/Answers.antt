use Rattle.std.proofs.Common.{refl, []}
use mathlib.Core.Bool.{false≢true}
use Rattle.kinds.specs.Meaning.{related}
use Rattle.kinds.specs.declared.relation.Relation.TheVariants.{Within}
use Rattle.claims.specs.Claims.{put}
use Rattle.claims.proofs.claim.worked_claim.Goals as goal

pub returns-clause-cases : goal.returns-clause-cases
returns-clause-cases c = record {
  has_place = refl;
  has_not_place = refl;
  within_itself = λ v. (related (Within 0 0) v).1 (λ i h. h);
  some_within = λ v. ([], (related (Within 1 0) (put v 1 [])).1 (λ i h. let e = false≢true h in absurd e));
  row_of_some = refl;
}
