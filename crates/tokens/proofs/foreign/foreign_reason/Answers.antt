use Rattle.std.proofs.Common.{rules}
use Rattle.tokens.specs.Scan.{is_foreign}
use Rattle.tokens.proofs.foreign.foreign_reason.Goals as goal

pub returns : goal.returns
unfolding is_foreign
returns c = search rules
