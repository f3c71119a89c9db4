use Rattle.std.proofs.Common.{◌++◌, ◌∙◌, string_bytes, refl}
use Rattle.rule_report.specs.KeptAnswers.{drawn_of}
use Rattle.rule_report.specs.Reported.{of_keep}
use Rattle.rule_report.proofs.ReportedLaws.{tells_one}
use Rattle.rule_report.proofs.kept.kept_answer.Goals as goal

pub returns : goal.returns
returns g c =
    let a = c.args.asked in
    let k = c.args.keep.now in
    let told = string_bytes c.in_ok-told.told.text in
    let claims = string_bytes c.in_ok-claims.claims in
    let help = string_bytes c.in_ok-help.help in
    tells_one a.file.now a.title.now a.source.now a.options.now (record { item = of_keep k; words = told ++ (claims ++ help); pictures = drawn_of k c.in_ok-answer.answer }) (record { text = c.in_ok-format.field-0; pictures = c.in_ok-told.told.pictures })
    (record {
      answer = c.in_ok-answer.answer;
      memory = c.program-memory.result;
      told = told;
      claims = claims;
      help = help;
      is_memory = record { most = c.program-memory.ensures.0 ∙ c.unwrap_or.ensures; words = c.program-memory.ensures.1 };
      true_of = c.in_ok-answer.ensures;
      is_told = c.in_ok-told.ensures.text;
      shown = c.in_ok-claims.ensures;
      helped = c.in_ok-help.ensures;
      words_are = refl;
      pictures_are = refl;
    })
    c.in_ok-format.ensures.ok c.in_ok-told.ensures.pictures
