use Rattle.std.proofs.Common.{length}
use Rattle.simulate.proofs.seen.Seen.+fits.Given as goal

abbrev pub decreases-fits : goal.decreases-fits
decreases-fits l = length l.ps.now
