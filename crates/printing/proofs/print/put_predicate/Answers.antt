use Rattle.std.proofs.Common.{ℕ, List, [], ◌∷◌, ◌∙◌, ap, string_bytes}
use Rattle.tokens.specs.declared.kind.Kind.TheVariants as kind
use Rattle.tokens.specs.Words.{Word, word}
use Rattle.trees.specs.declared.tree.Parameter.{Parameter}
use Rattle.syntax.specs.Plain.{written, open_, close, semicolon}
use Rattle.syntax.specs.Items.{parameters, view_parameters, equal}
use Rattle.syntax.specs.Views.{view}
use Rattle.syntax.specs.Printed.{text}
use Rattle.printing.specs.Writing.{Writes, is_all}
use Rattle.printing.proofs.WritingLaws.{same, then_ok}
use Rattle.printing.proofs.print.put_predicate.Goals as goal

pub returns : goal.returns
returns c =
    let old = c.args.writer.now in
    let p = c.args.predicate.now in
    let heading = λ (x : List ℕ) (ps : List Parameter) (r : List Word). word kind.Predicate (112 ∷ 114 ∷ 101 ∷ 100 ∷ []) ∷ word kind.Name x ∷ open_ ∷ parameters (view_parameters ps) (close ∷ equal ∷ r) in
    let name = c.as_str.result.now in
    let all = c.deref.result.now in
    let written_heading : Writes old c.word-5.new.self (heading name all) = λ r.
    c.in_ok-word-5.ensures r ∙ c.in_ok-word-4.ensures (equal ∷ r) ∙ c.in_ok-put_parameters.ensures (close ∷ equal ∷ r) ∙ c.in_ok-word-3.ensures (parameters (view_parameters all) (close ∷ equal ∷ r))
    ∙ c.in_ok-word-2.ensures (open_ ∷ parameters (view_parameters all) (close ∷ equal ∷ r)) ∙ c.in_ok-word.ensures (word kind.Name name ∷ open_ ∷ parameters (view_parameters all) (close ∷ equal ∷ r)) in
    then_ok c.put_formula.result old c.word-5.new.self c.put_formula.new.writer (heading (string_bytes p.name.text) p.parameters.items) (λ r. written (text (is_all c.args.style) (view p.body.kind)) (semicolon ∷ r))
    (same old c.word-5.new.self (heading name all) (heading (string_bytes p.name.text) p.parameters.items) (λ r. ap (λ x. heading x all r) c.as_str.ensures.value ∙ ap (λ ps. heading (string_bytes p.name.text) ps r) c.deref.ensures.value) written_heading)
    c.put_formula.ensures
