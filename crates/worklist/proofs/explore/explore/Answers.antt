use Rattle.worklist.proofs.SearchLaws.{tabled}
use Rattle.worklist.proofs.explore.explore.Goals as goal

pub returns : goal.returns
returns g c = let s = c.in_ok-m.ensures in tabled c.mark.new.t s.same s.going c.mark.ensures.rows c.mark.ensures.same c.mark.ensures.accepted
