use Rattle.std.proofs.Common.{◌+◌, ◌-◌, ◌∙◌, length, take, drop}
use Rattle.printing.proofs.WritingLaws.{next_item, name_step}
use Rattle.printing.proofs.print.put_names.Goals as goal

pub loop-name-preserved : goal.loop-name-preserved
loop-name-preserved c = λ rest.
    let further = take (length c.args.names.now - 1) (drop 1 c.args.names.now) in
    let i = c.loop-name.name-index in
    name_step c.loop-name.writer c.word-in-loop-name.new.self c.word-in-loop-name-2.new.self c.as_str-in-loop-name.result.now c.name-item.result (drop i further) (drop (i + 1) further) c.in_ok-word-2.ensures c.in_ok-word-3.ensures c.as_str-in-loop-name.ensures.value (next_item further i c.name-item.result c.loop-name-test.true c.name-item.is) rest ∙ c.loop-name.invariant rest
