use Rattle.std.proofs.Common.{List, ◌∷◌}
use Rattle.tokens.specs.declared.kind.Kind.TheVariants as kind
use Rattle.tokens.specs.Words.{Word, word}
use Rattle.syntax.specs.Plain.{semicolon}
use Rattle.syntax.specs.Rows.{rings_name}
use Rattle.printing.proofs.WritingLaws.{then_ok}
use Rattle.printing.proofs.print.put_ring.Goals as goal

pub returns : goal.returns
returns c = then_ok c.word-2.result c.args.writer.now c.word.new.self c.word-2.new.self (λ (r : List Word). word kind.Name rings_name ∷ r) (λ r. semicolon ∷ r) c.in_ok-word.ensures c.word-2.ensures
