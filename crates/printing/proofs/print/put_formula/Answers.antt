use Rattle.std.proofs.Common.{List, ◌∷◌}
use Rattle.tokens.specs.Words.{Word}
use Rattle.syntax.specs.Plain.{written, semicolon}
use Rattle.syntax.specs.Views.{view}
use Rattle.syntax.specs.Printed.{text}
use Rattle.printing.specs.Writing.{is_all}
use Rattle.printing.proofs.WritingLaws.{then_ok}
use Rattle.printing.proofs.print.put_formula.Goals as goal

pub returns : goal.returns
returns c = then_ok c.word.result c.args.writer.now c.put.new.writer c.word.new.self (λ (r : List Word). written (text (is_all c.args.style) (view c.args.formula.now.kind)) r) (λ r. semicolon ∷ r) c.in_ok-put.ensures c.word.ensures
