use Rattle.std.proofs.Common.{string_bytes, ap, ◌∙◌, get_or, arith}
use Rattle.rule_report.specs.Reported.{given_words}
use Rattle.rule_report.proofs.ReportedLaws.{words_more, pictures_more}
use Rattle.rule_report.proofs.report.given_rows.Goals as goal

pub loop-i-preserved : goal.loop-i-preserved
loop-i-preserved c =
    let s = c.args.asked.source.now in
    let o = c.args.asked.options.now in
    let i = c.loop-i.i in
    let row = c.row-item.result in
    let old = c.loop-i.report in
    let more = c.in_ok-given.field-0 in
    let new = c.append.new.self in
    record {
      text = words_more (given_words s o) s.rows.items i row (string_bytes old.text) (string_bytes more.text) (string_bytes new.text) (omega arith)
          (c.row-item.is ∙ ap (λ rows. get_or rows i row) c.deref-row-items.ensures.value) c.loop-i.invariant.text c.in_ok-given.ensures.text c.in_ok-append.ensures.text;
      pictures = pictures_more c.args.asked.title.now o.pictures i old.pictures.items more.pictures.items new.pictures.items c.loop-i.invariant.pictures c.in_ok-given.ensures.pictures c.in_ok-append.ensures.pictures;
    }
