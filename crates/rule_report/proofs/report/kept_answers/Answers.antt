use Rattle.std.proofs.Common.{arith}
use Rattle.rule_report.specs.Reported.{of_keep}
use Rattle.rule_report.proofs.ReportedLaws.{tells_more, tells_none}
use Rattle.rule_report.proofs.report.kept_answers.Goals as goal

pub loop-keep-init : goal.loop-keep-init
loop-keep-init g c =
    let a = c.args.asked in
    tells_none a.file.now a.title.now a.source.now a.options.now (record { text = c.new.result; pictures = c.new-2.result }) c.new.ensures.bytes c.new-2.ensures.items

pub loop-keep-preserved : goal.loop-keep-preserved
loop-keep-preserved g c =
    let a = c.args.asked in
    tells_more a.file.now a.title.now a.source.now a.options.now of_keep c.args.keeps.now c.loop-keep.keep-index c.keep-item.result c.loop-keep.report c.in_ok-kept_answer.field-0 c.append.new.self (omega arith)
    c.keep-item.is c.loop-keep.invariant c.in_ok-kept_answer.ensures c.in_ok-append.ensures.text c.in_ok-append.ensures.pictures
