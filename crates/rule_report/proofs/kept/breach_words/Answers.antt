use Rattle.std.proofs.Common.{◌≡◌, ℕ, List, ◌++◌, length, map, codes, ap, ◌∙◌}
use Rattle.std.proofs.lemmas.Result.{IfOk-weaker}
use Rattle.std.specs.Fmt.{decimal}
use Rattle.words.specs.Words.{Word}
use Rattle.rule_report.specs.KeptWords.{moment_of}
use Rattle.rule_report.specs.ShownRows.{rows_of, rows_shown}
use Rattle.rule_report.proofs.kept.breach_words.Goals as goal

pub returns : goal.returns
returns c =
    let s = c.args.asked.source.now in
    let row = c.args.breach.now.row.items in
    let h = c.args.history.now in
    let moment = moment_of c.args.breach.now.moment in
    let names : List (List ℕ) = map (λ name. name.now) s.bits.names.items in
    let told : ℕ → List ℕ → List (List ℕ) → List Word → List ℕ = λ count m ns rows.
    codes "not kept, first at length " ++ (decimal count ++ (codes ", " ++ (m ++ (codes "\n" ++ rows_shown s.bits.layout ns 0 rows)))) in
    let given : List (List ℕ) = map (λ name. name.now) c.deref.result.now in
    let found : List ℕ = c.moment_words-moment.result.now in
    let first : told h.modules found given (rows_of h) ≡ told (length row) found given (rows_of h) = ap (λ n. told n found given (rows_of h)) c.requires.modules in
    let second : told (length row) found given (rows_of h) ≡ told (length row) moment given (rows_of h) = ap (λ m. told (length row) m given (rows_of h)) c.moment_words-moment.ensures in
    let third : told (length row) moment given (rows_of h) ≡ told (length row) moment names (rows_of h) = ap (λ xs. told (length row) moment (map (λ name. name.now) xs) (rows_of h)) c.deref.ensures.value in
    IfOk-weaker c.format.result _ _ (λ words e. e ∙ (first ∙ (second ∙ (third ∙ ap (λ r. told (length row) moment names r) c.requires.rows)))) c.format.ensures.ok
