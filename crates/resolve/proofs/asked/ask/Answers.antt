use Rattle.resolve.proofs.AsksLaws.{all_asked}
use Rattle.resolve.proofs.asked.ask.Goals as goal

pub returns-clause-asks : goal.returns-clause-asks
returns-clause-asks c = all_asked _ _ c.args.items.now c.new.ensures.items c.new-2.ensures.items c.new-3.ensures.items c.in_ok-items.ensures.says
