use Rattle.std.proofs.Common.{◌≡◌, ap, ◌∙◌, string_bytes}
use Rattle.std.proofs.lemmas.Result.{IfOk-weaker}
use Rattle.trees.specs.Position.{line_of, column_of}
use Rattle.claim_report.proofs.PlacedLaws.{printed_beside, same_printed, begins}
use Rattle.claim_report.proofs.report.begins.Goals as goal

pub returns : goal.returns
returns c =
    let file = c.args.source.file.now in
    let text = c.args.source.text.now in
    let start = c.args.span.start in
    let beside = c.beside-beside.result in
    let said = c.beside-beside.ensures in
    let place = c.position_of-place.result in
    let at = c.position_of-place.ensures in
    IfOk-weaker c.format.result _ _ (λ words h.
    let d : string_bytes words ≡ printed_beside file place.line place.column beside.file.now beside.line beside.column beside.message.now beside.text = h in
    begins file text c.args.span beside.text (string_bytes words) said.text
    (d ∙ same_printed file place.line place.column beside.file.now beside.line beside.column beside.message.now beside.text (line_of text start) (column_of text start) said.file at.line at.column said.line said.column (ap (λ z. z.now) said.message)))
    c.format.ensures.ok
