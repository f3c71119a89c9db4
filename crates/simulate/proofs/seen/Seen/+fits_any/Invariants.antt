use Rattle.std.proofs.Common.{length}
use Rattle.simulate.proofs.seen.Seen.+fits_any.Given as goal

abbrev pub decreases-fits_any : goal.decreases-fits_any
decreases-fits_any l = length l.patterns.now
