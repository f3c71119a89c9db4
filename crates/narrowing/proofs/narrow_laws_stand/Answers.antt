use Rattle.narrowing.proofs.MentionedLaws.{narrow_laws}
use Rattle.narrowing.proofs.narrow_laws_stand.Goals as goal

pub returns : goal.returns
returns c = narrow_laws
