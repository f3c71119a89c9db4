use Rattle.std.proofs.Common.{[], ◌∷◌}
use Rattle.rules.specs.declared.property.Property.TheVariants.{Allowed, Stuck, Left}
use Rattle.rule_report.specs.declared.subject.Subject.TheVariants.{SomeAllowed, NoneStuck, AllowedKept}
use Rattle.rule_report.specs.Reported.{about}
use Rattle.rule_report.proofs.ReportedLaws.{tells_append}
use Rattle.rule_report.proofs.report.general_answers.Goals as goal

pub returns : goal.returns
returns c =
    let a = c.args.asked in
    let allowed = about SomeAllowed Allowed in
    let stuck = about NoneStuck Stuck in
    let kept = about AllowedKept Left in
    tells_append a.file.now a.title.now a.source.now a.options.now (allowed ∷ stuck ∷ []) (kept ∷ []) c.append.new.self c.in_ok-left.left c.append-2.new.self
    (tells_append a.file.now a.title.now a.source.now a.options.now (allowed ∷ []) (stuck ∷ []) c.in_ok-report.report c.in_ok-stuck.stuck c.append.new.self
    c.in_ok-report.ensures c.in_ok-stuck.ensures c.in_ok-append.ensures.text c.in_ok-append.ensures.pictures)
    c.in_ok-left.ensures c.in_ok-append-2.ensures.text c.in_ok-append-2.ensures.pictures
