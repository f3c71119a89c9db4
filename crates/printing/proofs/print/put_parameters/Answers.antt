use Rattle.std.proofs.Common.{◌+◌, ◌-◌, ◌∙◌, length, take, drop}
use Rattle.printing.proofs.WritingLaws.{next_item, parameter_step}
use Rattle.printing.proofs.print.put_parameters.Goals as goal

pub loop-parameter-preserved : goal.loop-parameter-preserved
loop-parameter-preserved c = λ rest.
    let further = take (length c.args.parameters.now - 1) (drop 1 c.args.parameters.now) in
    let i = c.loop-parameter.parameter-index in
    parameter_step c.loop-parameter.writer c.word.new.self c.put_parameter-in-loop-parameter.new.writer c.parameter-item.result (drop i further) (drop (i + 1) further) c.in_ok-word.ensures c.in_ok-put_parameter-2.ensures (next_item further i c.parameter-item.result c.loop-parameter-test.true c.parameter-item.is) rest ∙ c.loop-parameter.invariant rest
