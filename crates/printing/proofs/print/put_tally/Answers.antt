use Rattle.std.proofs.Common.{List, ◌∷◌, ◌∙◌}
use Rattle.std.specs.Prelude.{decimal}
use Rattle.tokens.specs.declared.kind.Kind.TheVariants as kind
use Rattle.tokens.specs.Words.{Word, word}
use Rattle.trees.specs.declared.tree.Binary.TheVariants as binary
use Rattle.syntax.specs.Plain.{bar, mod_bytes, sign_of}
use Rattle.printing.specs.Writing.{Writes}
use Rattle.printing.proofs.WritingLaws.{then_ok}
use Rattle.printing.proofs.print.put_tally.Goals as goal

pub returns : goal.returns
returns c =
    let old = c.args.writer.now in
    let m = decimal c.args.modulus in
    let heading = λ (r : List Word). bar ∷ word kind.Name mod_bytes ∷ word kind.Number m ∷ sign_of binary.Equal ∷ r in
    let written_heading : Writes old c.word-3.new.self heading = λ r.
    c.in_ok-word-3.ensures r ∙ c.in_ok-number.ensures (sign_of binary.Equal ∷ r) ∙ c.in_ok-word-2.ensures (word kind.Number m ∷ sign_of binary.Equal ∷ r)
    ∙ c.in_ok-word.ensures (word kind.Name mod_bytes ∷ word kind.Number m ∷ sign_of binary.Equal ∷ r) in
    then_ok c.number-2.result old c.word-3.new.self c.number-2.new.self heading (λ r. word kind.Number (decimal c.args.rest) ∷ r) written_heading c.number-2.ensures
