use Rattle.std.proofs.Common.{List, ◌∷◌, true, sym, ap, ◌∙◌}
use Rattle.tokens.specs.Words.{Word}
use Rattle.syntax.specs.Plain.{written, semicolon}
use Rattle.syntax.specs.Rows.{is_rows}
use Rattle.syntax.specs.Views.{view}
use Rattle.syntax.specs.Printed.{enclosed, text}
use Rattle.printing.specs.Writing.{is_all}
use Rattle.printing.proofs.WritingLaws.{then_ok, same_ok}
use Rattle.printing.proofs.print.put_claimed.Goals as goal

pub returns-in_ok-put_enclosed : goal.returns-in_ok-put_enclosed
returns-in_ok-put_enclosed c =
    let old = c.args.writer.now in
    let claimed = view c.args.formula.now.kind in
    let t = text (is_all c.args.style) claimed in
    same_ok c.word.result old c.word.new.self (λ (r : List Word). written (enclosed true t) (semicolon ∷ r)) (λ r. written (enclosed (is_rows claimed) t) (semicolon ∷ r))
    (λ r. ap (λ b. written (enclosed b t) (semicolon ∷ r)) (sym c.if-is_rows.true ∙ c.is_rows.ensures))
    (then_ok c.word.result old c.put_enclosed.new.writer c.word.new.self (λ (r : List Word). written (enclosed true t) r) (λ r. semicolon ∷ r) c.in_ok-put_enclosed.ensures c.word.ensures)
