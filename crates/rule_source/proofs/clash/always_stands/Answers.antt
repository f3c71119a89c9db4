use Rattle.rule_source.proofs.ClashLaws.{left_may_be_none, right_may_be_none}
use Rattle.rule_source.proofs.clash.always_stands.Goals as goal

pub returns-in-Line-Left : goal.returns-in-Line-Left
returns-in-Line-Left c = left_may_be_none _ _ c.in-Line-Left.is-0 c.in-Line-Left.is-1

pub returns-in-Line-Right : goal.returns-in-Line-Right
returns-in-Line-Right c = right_may_be_none _ _ c.in-Line-Right.is-0 c.in-Line-Right.is-1
