use Rattle.std.proofs.Common.{◌++◌, map, string_bytes, ap, refl, subst, ◌∙◌}
use Rattle.rule_report.specs.ShownClaim.{IsShown}
use Rattle.rule_report.specs.KeptWords.{names_of}
use Rattle.rule_report.specs.Told.{told}
use Rattle.rule_report.specs.Reported.{drawn, about}
use Rattle.rule_report.proofs.ReportedLaws.{tells_one}
use Rattle.rule_report.proofs.report.answered.Goals as goal

pub returns : goal.returns
returns c =
    let a = c.args.asked in
    let subject = c.args.subject.now in
    let property = c.args.question.now.property in
    let answer = c.in_ok-answer.answer in
    let ending = string_bytes c.in_ok-ending.ending in
    let claim = string_bytes c.in_ok-claim.claim in
    let words = told a.source.now.bits.layout (names_of a.source.now) subject answer ++ (ending ++ claim) in
    let pictures = drawn subject answer in
    tells_one a.file.now a.title.now a.source.now a.options.now (record { item = about subject property; words = words; pictures = pictures }) (record { text = c.in_ok-format.field-0; pictures = c.in_ok-picture_of_answer.field-0 })
    (record {
      answer = answer;
      ending = ending;
      claim = claim;
      true_of = c.in_ok-answer.ensures c.requires;
      ends = c.in_ok-ending.ensures;
      shown = subst (λ r. IsShown a.options.now r property claim) c.requires c.in_ok-claim.ensures;
      words_are = refl;
      pictures_are = refl;
    })
    (c.in_ok-format.ensures.ok ∙ ap (λ names. told a.source.now.bits.layout (map (λ name. name.now) names) subject answer ++ (ending ++ claim)) c.deref.ensures.value)
    c.in_ok-picture_of_answer.ensures
