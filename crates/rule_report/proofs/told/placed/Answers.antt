use Rattle.std.proofs.Common.{◌≡◌, ℕ, List, [], ◌++◌, codes, subst}
use Rattle.std.proofs.lemmas.Result.{IfOk-weaker}
use Rattle.std.specs.Option.{option_map_or}
use Rattle.display.specs.Beside.{excerpt_of, place_of}
use Rattle.trees.specs.Position.{line_of, column_of}
use Rattle.rule_report.proofs.told.placed.Goals as goal

pub returns : goal.returns
returns c =
    let start = c.args.span.start in
    let place = c.position_of-place.result in
    let at = c.position_of-place.ensures in
    let b = c.beside-beside.result in
    let shown : List ℕ = place_of b.file.now b.line b.column ++ (b.message.now ++ (codes "\n" ++ option_map_or (λ t. excerpt_of t.now b.column) b.text [])) in
    IfOk-weaker c.format.result _ _
    (λ words h. record {
      line = place.line;
      column = place.column;
      shown = shown;
      words_are = h;
      line_is = subst (λ (t : List ℕ). place.line ≡ line_of t start) c.as_bytes.ensures.value at.line;
      column_is = subst (λ (t : List ℕ). place.column ≡ column_of t start) c.as_bytes.ensures.value at.column;
    }) c.format.ensures.ok
