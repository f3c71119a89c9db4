use Rattle.std.proofs.Common.{ℕ, List, ◌++◌, codes, string_bytes, ap, ◌∙◌}
use Rattle.std.specs.Fmt.{decimal}
use Rattle.rule_report.specs.KeptWords.{why_of}
use Rattle.rule_report.proofs.kept.told_large.Goals as goal

pub returns-clause-text : goal.returns-clause-text
returns-clause-text c =
    let t = c.args.large in
    let place = string_bytes c.in_ok-place.place in
    let told : List ℕ → List ℕ = λ m. codes "  " ++ (c.args.keep.now.name.now ++ (codes ": too large: part " ++ (decimal t.part ++ (codes ", " ++ (m ++ (codes ": " ++ (why_of t.why ++ (codes " at " ++ place)))))))) in
    (place, c.statement_span-span.result, c.in_ok-place.ensures, c.in_ok-format.ensures.ok ∙ ap told c.moment_words-moment.ensures)
