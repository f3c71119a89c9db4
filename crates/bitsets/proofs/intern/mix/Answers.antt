use Rattle.std.proofs.Common.{refl}
use Rattle.bitsets.specs.Intern.{mixed}
use Rattle.bitsets.proofs.intern.mix.Goals as goal

pub returns : goal.returns
unfolding mixed
returns c = refl
