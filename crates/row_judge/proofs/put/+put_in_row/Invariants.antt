use Rattle.std.proofs.Common.{length}
use Rattle.row_judge.proofs.put.+put_in_row.Given as goal

abbrev pub decreases-put_in_row : goal.decreases-put_in_row
decreases-put_in_row l = length l.bytes.now
