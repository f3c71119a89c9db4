use Rattle.std.proofs.Common.{ap, ap₂, sym, ◌∙◌, map}
use Rattle.std.proofs.Output.{has_written_of_eq}
use Rattle.claim_report.specs.Told.{both_of, told_of}
use Rattle.claim_report.proofs.told.ToldDisplay.fmt.Goals as goal

pub returns-in-Both-clause-writes : goal.returns-in-Both-clause-writes
returns-in-Both-clause-writes g c = λ plain ok.
    let subject = c.args.self.now.subject in
    let names = map (λ name. name.now) c.args.self.now.names.now in
    has_written_of_eq _ _ _ _ _ (ap₂ (both_of subject names) c.deref.ensures.value c.deref-in-Both.ensures.value ∙ sym (ap (told_of subject names) c.in-Both.is))
    (c.write-in-Both.ensures.writes plain ok)
