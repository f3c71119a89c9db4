use Rattle.std.proofs.Common.{List, ◌∷◌, ap, string_bytes}
use Rattle.tokens.specs.declared.kind.Kind.TheVariants as kind
use Rattle.tokens.specs.Words.{Word, word}
use Rattle.syntax.specs.Items.{sort_word}
use Rattle.printing.proofs.WritingLaws.{then_ok, same, same_ok}
use Rattle.printing.proofs.print.put_parameter.Goals as goal

pub returns : goal.returns
returns c =
    let old = c.args.writer.now in
    let mid = c.word.new.self in
    let new = c.word-2.new.self in
    let sort = λ (r : List Word). sort_word c.args.parameter.now.sort ∷ r in
    let name = λ (r : List Word). word kind.Name (string_bytes c.args.parameter.now.name.text) ∷ r in
    then_ok c.word-2.result old mid new sort name (same old mid _ sort (λ r. ap (λ w. w ∷ r) c.sort_word-kind.ensures) c.in_ok-word.ensures) (same_ok c.word-2.result mid new _ name (λ r. ap (λ t. word kind.Name t ∷ r) c.as_str.ensures.value) c.word-2.ensures)
